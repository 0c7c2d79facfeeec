-- Words that are clear pass, behind those of the head.
use native.Mathlib.Omega.{arith}
use Rattle.list_check.proofs.FrontLaws.{clear_passes, front_max}
use Rattle.list_check.proofs.flat_upto.Goals as goal

pub returns : goal.returns
returns c =
    let a = c.args in
    let flat = c.flat-clear in
    let m = c.max.ensures in
    let clear = clear_passes a.order a.words.now (omega arith) 5 flat.result c.requires.2 (λ j h l. flat.ensures.2 j (omega arith) l) in
    (omega (arith, m), omega (arith, m, flat.ensures), front_max a.order a.words.now _ _ m clear c.requires.2)
