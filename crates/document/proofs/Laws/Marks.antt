-- Laws of marks: sets of wires as tests, a mark more, the marks of a list of wires.
use Rattle.std.specs.Prelude.{◌≡◌, refl, Bool, true, false, ◌||◌, List, [], ◌∷◌, ℕ, zero, suc, ◌<◌, eqb, length, set, replicate}
use Rattle.std.proofs.Common.{sym, ap, ◌∙◌, inl, inr, arith, length-set, get_or-set_same, get_or-set_other}
use Rattle.std.proofs.Math.Path.{fun_ext}
use Rattle.data.specs.Basics.{Marks, at, mark}
use Rattle.data.proofs.Laws.Tests.{out_of, or_cases, or_l, or_r, eqb_true, true_eqb, wire_cases, Mem}

-- ---- sets of wires

-- a set of wires, by a test
abbrev pub Set : Type 0
Set = ℕ → Bool

abbrev pub In : Set → ℕ → Type 0
In S w = S w ≡ true

abbrev pub Out : Set → ℕ → Type 0
Out S w = S w ≡ false

abbrev pub Sub : Set → Set → Type 0
Sub A B = (w : ℕ) → In A w → In B w

-- one wire more
unfoldable pub add : Set → ℕ → Set
add S w v = eqb v w || S v

pub add_cases : {X : Type 0} (S : Set) (w v : ℕ) → In (add S w) v → (v ≡ w → X) → (In S v → X) → X
unfolding add
add_cases S w v h f g = or_cases (eqb v w) (S v) h (λ e. f (eqb_true v w e)) g

pub add_in : (S : Set) (w v : ℕ) → In S v → In (add S w) v
unfolding add
add_in S w v i = or_r (eqb v w) (S v) i

pub add_self : (S : Set) (w v : ℕ) → v ≡ w → In (add S w) v
unfolding add
add_self S w v e = or_l (eqb v w) (S v) (true_eqb v w e)

-- ---- marks

pub set_cases : {X : Type 0} (m : Marks) (a v : ℕ) → In (at (set m a true)) v → (v ≡ a → X) → (In (at m) v → X) → X
set_cases m a v h f g = wire_cases v a f (λ n. g (sym (get_or-set_other m a v true false n) ∙ h))

pub set_keeps : (m : Marks) (a v : ℕ) → In (at m) v → In (at (set m a true)) v
set_keeps [] a v h = h
set_keeps (b ∷ m) zero zero h = refl
set_keeps (b ∷ m) zero (suc v) h = h
set_keeps (b ∷ m) (suc a) zero h = h
set_keeps (b ∷ m) (suc a) (suc v) h = set_keeps m a v h

pub set_marks : (m : Marks) (a v : ℕ) → v ≡ a → v < length m → In (at (set m a true)) v
set_marks m a v e h = rw e (get_or-set_same m a true false (rw e at h))

-- a mark more is a wire more
pub set_add : (m : Marks) (w : ℕ) → w < length m → at (set m w true) ≡ add (at m) w
unfolding add
set_add m w h = fun_ext (λ v. wire_cases v w
    (λ e. set_marks m w v e (omega arith) ∙ sym (add_self (at m) w v e))
    (λ n. get_or-set_other m w v true false n ∙ ap (◌|| at m v) (sym (out_of (λ z. n (eqb_true v w z))))))

pub none_marked : (n v : ℕ) → Out (at (replicate n false)) v
none_marked zero v = refl
none_marked (suc n) zero = refl
none_marked (suc n) (suc v) = none_marked n v

-- ---- the marks of a list of wires

pub mark_length_lem : (ws : List ℕ) (m : Marks) → length (mark ws m) ≡ length m
unfolding mark
mark_length_lem [] m = refl
mark_length_lem (w ∷ ws) m = mark_length_lem ws (set m w true) ∙ length-set m w true

pub mark_keeps : (ws : List ℕ) (m : Marks) (v : ℕ) → In (at m) v → In (at (mark ws m)) v
unfolding mark
mark_keeps [] m v i = i
mark_keeps (w ∷ ws) m v i = mark_keeps ws (set m w true) v (set_keeps m w v i)

pub mark_cases : {X : Type 0} (ws : List ℕ) (m : Marks) (v : ℕ) → In (at (mark ws m)) v → (Mem v ws → X) → (In (at m) v → X) → X
unfolding mark
mark_cases [] m v i f g = g i
mark_cases (w ∷ ws) m v i f g = mark_cases ws (set m w true) v i (λ k. f (inr k)) (λ j. set_cases m w v j (λ e. f (inl e)) g)

pub mark_marks : (ws : List ℕ) (m : Marks) (v : ℕ) → Mem v ws → v < length m → In (at (mark ws m)) v
unfolding mark
mark_marks [] m v k h = absurd k
mark_marks (w ∷ ws) m v (inl e) h = mark_keeps ws (set m w true) v (set_marks m w v e h)
mark_marks (w ∷ ws) m v (inr k) h = mark_marks ws (set m w true) v k (rw length-set h)
