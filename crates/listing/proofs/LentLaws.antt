-- Laws of listings in the bytes lent.
--     listed_in_few       too few bytes are left as they are
--     listed_in_room      enough bytes have the listing in front
--     listed_in_fits      the same of a listing that was counted and put
use mathlib.Core.Path.{◌≡◌, sym, ◌∙◌}
use mathlib.Core.List.{List, ◌++◌}
use Prim.Native.Nat.{ℕ, ◌≤◌, ◌<◌}
use lib.Dec.{leb}
use native.Mathlib.Omega.{arith}
use lib.ListN.{length, drop}
use Rattle.basics.proofs.Tests.{test_leb}
use Rattle.refusal.specs.Refusal.{accepted, bytes_too_few}
use Rattle.refusal.specs.Checks.{must, unless}
use Rattle.refusal.proofs.CheckLaws.{must_on, must_off, unless_on}
use Rattle.text.specs.PutAt.{PutAt}
use Rattle.listing.specs.Listing.{listed_to, listed_in}

pub listed_in_few : {bytes : List ℕ} {none some : List ℕ} {end : ℕ} (out : List ℕ) → PutAt bytes 0 none end some → length out < end → listed_to bytes_too_few 0 out ≡ listed_in bytes out
unfolding listed_in unless
listed_in_few {bytes} out w h =
    let e : must (leb (length bytes) (length out)) bytes_too_few accepted ≡ bytes_too_few = must_off bytes_too_few accepted (test_leb (length bytes) (length out)) (λ g. omega (arith, w.stop)) in
    rw e

pub listed_in_room : (bytes out : List ℕ) → length bytes ≤ length out → listed_in bytes out ≡ listed_to accepted (length bytes) (bytes ++ drop (length bytes) out)
unfolding listed_in
listed_in_room bytes out h = unless_on _ _ _ (must_on bytes_too_few accepted (test_leb (length bytes) (length out)) h)

pub listed_in_fits : {bytes : List ℕ} {none some : List ℕ} {end : ℕ} {out : List ℕ} {stop : ℕ} {new : List ℕ} → PutAt bytes 0 none end some → PutAt bytes 0 out stop new → end ≤ length out →
    listed_to accepted end new ≡ listed_in bytes out
listed_in_fits {bytes} {end = end} {out = out} {stop = stop} {new = new} v w h =
    let e : end ≡ length bytes = omega (arith, v.stop) in
    let f : stop ≡ length bytes = omega (arith, w.stop) in
    let p : new ≡ bytes ++ drop (length bytes) out = w.put (omega arith) ∙ rw f in
    rw (e, p) (sym (listed_in_room bytes out (omega arith)))
