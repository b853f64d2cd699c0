-- A page and a count keep the laws of what bytes are put into.
use Rattle.std.specs.Prelude.{◌≡◌, refl, List, [], ◌∷◌, ◌++◌, ℕ, suc, ◌+◌, ◌≤◌, length, set}
use Rattle.std.proofs.Common.{ap, ◌∙◌, arith, length-append}
use Rattle.std.proofs.lemmas.List.Edits.{sets}
use Rattle.std.proofs.Math.Seq.{length-sets}
use Rattle.buffer.specs.Put.{wrote, Put}
use Rattle.buffer.specs.Sinks.{Puts, page_room, Counted, count_room, SinkLaws}
use Rattle.buffer.specs.declared.Page.{Page}

sets_more : (v w b : List ℕ) (i j : ℕ) → j ≡ i + length v → sets (sets b i v) j w ≡ sets b i (v ++ w)
sets_more [] w b i j e = let z : j ≡ i = omega arith in ap (λ (n : ℕ). sets b n w) z
sets_more (x ∷ v) w b i j e = sets_more v w (set b i x) (suc i) j (omega arith)

-- one after the other
pub put_then : {b : List ℕ} {at : ℕ} {v w : List ℕ} {r s : ℕ} {c d : List ℕ} → Put b at v r c → Put c r w s d → Put b at (v ++ w) s d
unfolding wrote
put_then {b} {at} {v} {w} {r} p q =
    record {
      next = let x = p.next in let y = q.next in let z = length-append v w in omega arith;
      left = q.left ∙ ap (λ (l : List ℕ). sets l r w) p.left ∙ sets_more v w b at r p.next;
    }

pub put_none : (b : List ℕ) (at : ℕ) → Put b at [] at b
unfolding wrote
put_none b at = record { next = omega arith; left = refl }

pub put_long : {b : List ℕ} {at : ℕ} {v : List ℕ} {r : ℕ} {c : List ℕ} → Put b at v r c → length c ≡ length b
unfolding wrote
put_long {b} {at} {v} p = ap length p.left ∙ length-sets b at v

puts_left : {p q : Page} {xs : List ℕ} → Puts p xs q → page_room p ≤ page_room q + length xs
puts_left a = omega (arith, put_long a.put, a.put.next)

pub page_laws : SinkLaws Puts page_room
page_laws = record {
  none = record { put = put_none _ _; same = refl };
  then = λ a b. record { put = put_then a.put b.put; same = b.same ∙ a.same };
  left = puts_left;
}

pub count_laws : SinkLaws Counted count_room
count_laws = record {
  none = record { next = omega arith };
  then = λ {p} {q} {r} {xs} {ys} a b. record { next = omega (arith, length-append xs ys, a.next, b.next) };
  left = λ a. omega (arith, a.next);
}
