use Rattle.std.proofs.Common.{ap, codes, refl, sym, ◌∙◌}
use Rattle.daytext.proofs.Ends.{one_spaced, two_spaced}
use Rattle.daytext.specs.Lines.{line_of}
use Rattle.daytext.proofs.printer.print_at_end.Goals as goal

pub returns-in-Nodes-clause-text : goal.returns-in-Nodes-clause-text
returns-in-Nodes-clause-text c =
    c.put_one.ensures.text ∙ one_spaced (codes "nodes") c.args.text.now _ c.in-Nodes.count c.told-text c.from.ensures ∙ ap line_of (sym c.in-Nodes.is)

pub returns-in-Release-clause-text : goal.returns-in-Release-clause-text
returns-in-Release-clause-text c =
    c.put_one-in-Release.ensures.text ∙ one_spaced (codes "release") c.args.text.now _ c.in-Release.number c.told-text refl ∙ ap line_of (sym c.in-Release.is)

pub returns-in-Close-clause-text : goal.returns-in-Close-clause-text
returns-in-Close-clause-text c =
    c.put_one-in-Close.ensures.text ∙ one_spaced (codes "close") c.args.text.now _ c.in-Close.number c.told-text refl ∙ ap line_of (sym c.in-Close.is)

pub returns-in-Run-clause-text : goal.returns-in-Run-clause-text
returns-in-Run-clause-text c =
    c.put_one-in-Run.ensures.text ∙ one_spaced (codes "run") c.args.text.now _ c.in-Run.slots c.told-text c.from-in-Run.ensures ∙ ap line_of (sym c.in-Run.is)

pub returns-in-Edge-clause-text : goal.returns-in-Edge-clause-text
returns-in-Edge-clause-text c =
    c.put_two.ensures.text ∙ two_spaced (codes "edge") c.args.text.now _ c.in-Edge.from _ c.in-Edge.to c.told-text c.from-in-Edge.ensures c.from-in-Edge-2.ensures ∙ ap line_of (sym c.in-Edge.is)
