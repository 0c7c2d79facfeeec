-- The part that the companion answers, cut out of the slots.
use mathlib.Core.Path.{refl}
use native.Mathlib.Omega.{arith}
use Rattle.part.specs.Part.{slice_of}
use Rattle.part.proofs.InsideLaws.{part_of_fits, slice_place, slice_start, slice_of_cut}
use Rattle.part.proofs.quadrant_slice.Goals as goal

pub returns-in-Ok-clause-ref_ptr_value : goal.returns-in-Ok-clause-ref_ptr_value
returns-in-Ok-clause-ref_ptr_value c = slice_place _ _ _ _ _ _ c.in-Ok.ensures c.args.slots.ref_ptr

pub returns-in-Err-clause-ref_ptr_value : goal.returns-in-Err-clause-ref_ptr_value
returns-in-Err-clause-ref_ptr_value c = slice_start _ _ _ _ _ _ c.in-Err.ensures refl c.args.slots.ref_ptr

pub returns-in-Ok-clause-result_value : goal.returns-in-Ok-clause-result_value
returns-in-Ok-clause-result_value c = slice_of_cut _ _ _ _ _ _ c.in-Ok.ensures

pub returns-in-Err-clause-result_value : goal.returns-in-Err-clause-result_value
unfolding slice_of
returns-in-Err-clause-result_value c = rw (← c.in-Err.ensures) refl

pub overflow_add-result : goal.overflow_add-result
overflow_add-result c =
    let a = c.args in
    omega (arith, rw (← c.in-Ok.ensures) at (part_of_fits a.order a.tiles a.slots.now a.block.corner a.block.size))

pub offset_bounds-slots-position : goal.offset_bounds-slots-position
offset_bounds-slots-position c =
    let a = c.args in
    omega (arith, rw (← c.in-Ok.ensures) at (part_of_fits a.order a.tiles a.slots.now a.block.corner a.block.size))

pub slice_bounds-result-end : goal.slice_bounds-result-end
slice_bounds-result-end c =
    let a = c.args in
    omega (arith, rw (← c.in-Ok.ensures) at (part_of_fits a.order a.tiles a.slots.now a.block.corner a.block.size))
