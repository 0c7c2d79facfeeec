-- The loop keeps `Lining`: the stretch is put up to the quad number quad-index.
use Rattle.scan_block.proofs.Lines.{quads_many, quad_in, quad_low, lining_start, lining_aligned, lining_next, lining_done}
use Rattle.std.proofs.Common.{◌+◌, ◌*◌, ◌≤◌, ◌∙◌, arith, refl}
use Rattle.scan_block.proofs.put_stretch.Goals as goal

pub returns-clause-put : goal.returns-clause-put
returns-clause-put c =
    let many = quads_many c.args.accounts.now c.args.at _ _ c.as_chunks.ensures.front_len in
    lining_done c.loop-quad.invariant.lining c.args.count (omega (arith, many, c.requires.count_bound.2.is, c.requires.given.there))

pub loop-quad-init : goal.loop-quad-init
loop-quad-init c = record { back = refl; lining = lining_start _ _ _ _ _ _ c.requires.fits }

pub loop-quad-preserved : goal.loop-quad-preserved
loop-quad-preserved c =
    let w = c.loop-quad.invariant in
    let put = c.put_quad-moved in
    let quad = quad_in _ _ _ _ c.as_chunks.ensures.front_len c.as_chunks.ensures.front c.loop-quad.quad-index c.loop-quad-test.true in
    record {
      back = put.ensures.back ∙ w.back;
      lining = lining_next w.lining _ put.result.front _ _ _ _ put.auto.slots quad (rw w.back at put.ensures.put);
    }

pub put_quad-moved-requires-clause-z_bound : goal.put_quad-moved-requires-clause-z_bound
put_quad-moved-requires-clause-z_bound c =
    let w = c.loop-quad.invariant.lining in
    let many = quads_many c.args.accounts.now c.args.at _ _ c.as_chunks.ensures.front_len in
    (omega (arith, many, w.next), lining_aligned w c.requires.count_bound.1)

pub put_quad-moved-requires-clause-accounts : goal.put_quad-moved-requires-clause-accounts
put_quad-moved-requires-clause-accounts c =
    let many = quads_many c.args.accounts.now c.args.at _ _ c.as_chunks.ensures.front_len in
    let room : 4 * c.loop-quad.quad-index + 4 ≤ c.args.count = omega (arith, many) in
    quad_low _ _ c.args.count c.loop-quad.quad-index _ _ _ _ c.requires.given room (quad_in _ _ _ _ c.as_chunks.ensures.front_len c.as_chunks.ensures.front c.loop-quad.quad-index c.loop-quad-test.true)
