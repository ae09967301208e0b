use Rattle.std.proofs.Common.{◌+◌, arith, rules}
use Rattle.std.specs.Iterator.Adapters.{enumerate_source, enumerate_count}
use Rattle.textfile.proofs.Packed.{packs_none, packs_fault, packs_more}
use Rattle.textfile.proofs.packing.pack.Goals as goal

pub returns-in_err-record : goal.returns-in_err-record
returns-in_err-record c =
    let s = c.in-Some.ensures.steps in
    let stops = packs_fault c.args.text.now _ (enumerate_source c.loop-i.i-iterator).0.now _ _ (enumerate_count c.loop-i.i-iterator + 1) c.loop-i.invariant.2 s.0.2 s.0.0 s.0.1 in
    search rules

pub loop-i-preserved-in_default : goal.loop-i-preserved-in_default
loop-i-preserved-in_default c =
    let s = c.in-Some.ensures.steps in
    (search rules, search rules, rw s.2 (packs_none c.args.text.now _ (enumerate_source c.loop-i.i-iterator).0.now _ _ (enumerate_count c.loop-i.i-iterator + 1) c.loop-i.invariant.2 s.0.2 s.0.0 s.0.1 (search rules)), omega (arith, s.0.2, s.2, c.loop-i.invariant.3))

pub loop-i-preserved : goal.loop-i-preserved
loop-i-preserved c =
    let s = c.in-Some.ensures.steps in
    (search rules, search rules, rw s.2 (packs_more c.args.text.now _ (enumerate_source c.loop-i.i-iterator).0.now _ _ (enumerate_count c.loop-i.i-iterator + 1) c.loop-i.invariant.2 s.0.2 s.0.0 s.0.1 c.in-Some-2.record _ (search rules) (search rules)), omega (arith, s.0.2, s.2, c.loop-i.invariant.3))
