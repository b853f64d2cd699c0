-- Laws on the tests before a line: each test of the definition as the code makes it.
use mathlib.Core.Path.{◌≡◌, ap}
use mathlib.Core.Bool.{Bool, true, false, ◌&&◌, and-true}
use Prim.Native.Nat.{ℕ, ◌+◌, ◌≤◌, ◌<◌}
use native.Mathlib.Omega.{arith}
use lib.Dec.{leb, ltb}
use borrow.Author.Tests.{leb-true, ltb-true}
use Rattle.data.specs.Basics.{one, each}
use Rattle.data.proofs.Laws.Tests.{and_l, and_r}
use Rattle.document.specs.Routine.{is_rand, is_pub, operands_of}
use Rattle.document.specs.Reading.{earlier, has_room}
use Rattle.data.specs.declared.Kind.{Kind}
use Rattle.data.specs.declared.Kind.TheVariants as K
use Rattle.data.specs.declared.State.{State}

-- ---- 7

pub earlier_xor : (w a b : ℕ) → earlier w K.Xor a b ≡ (ltb a w && ltb b w)
unfolding earlier operands_of each
earlier_xor w a b = ap (λ t. ltb a w && t) (and-true (ltb b w))

pub earlier_and : (w a b : ℕ) → earlier w K.And a b ≡ (ltb a w && ltb b w)
unfolding earlier operands_of each
earlier_and w a b = ap (λ t. ltb a w && t) (and-true (ltb b w))

pub earlier_not : (w a b : ℕ) → earlier w K.Not a b ≡ ltb a w
unfolding earlier operands_of each
earlier_not w a b = and-true (ltb a w)

-- ---- 8

pub one_small : (b : Bool) → one b ≤ 1
one_small true = omega arith
one_small false = omega arith

pub record RoomFor (st : State) (k : Kind) : Type 0 where
  pub wires : st.n < 128
  pub rands : st.rands + one (is_rand k) ≤ 64
  pub pubs : st.pubs + one (is_pub k) ≤ 16

pub room_is : (st : State) (k : Kind) → has_room st k ≡ true → RoomFor st k
unfolding has_room
room_is st k h =
    let x = ltb st.n 128 in
    let y = leb (st.rands + one (is_rand k)) 64 in
    let z = leb (st.pubs + one (is_pub k)) 16 in
    let e = and_l (x && y) z h in
    record { wires = ltb-true _ _ (and_l x y e); rands = leb-true _ _ (and_r x y e); pubs = leb-true _ _ (and_r (x && y) z h) }
