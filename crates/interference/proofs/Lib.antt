mod Graphs
mod Words
