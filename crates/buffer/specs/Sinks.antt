-- What is put on a page, and what is counted in its place.
use Rattle.std.specs.Prelude.{◌≡◌, List, [], ◌++◌, ℕ, ◌+◌, ◌-◌, ◌≤◌, length}
use Rattle.buffer.specs.Put.{Put}
use Rattle.buffer.specs.declared.Page.{Page}
use Rattle.buffer.specs.declared.Count.{Count}

-- xs was put on the page, which is over the same buffer
pub record Puts (p : Page) (xs : List ℕ) (q : Page) : Type 0 where
  pub put : Put p.bytes.now p.at xs q.at q.bytes.now
  pub same : q.bytes.ghost_name ≡ p.bytes.ghost_name

-- how many bytes more have room on the page
abbrev pub page_room : Page → ℕ
page_room p = length p.bytes.now - p.at

-- the bytes xs were counted
pub record Counted (p : Count) (xs : List ℕ) (q : Count) : Type 0 where
  pub next : q.len ≡ p.len + length xs

-- a count stays below 2 to the 16
abbrev pub count_room : Count → ℕ
count_room p = 65535 - p.len

-- where nothing is put nothing changes, what is put twice is put one after the other, and no more room goes than what is put
pub record SinkLaws {S : Type 0} (puts : S → List ℕ → S → Type 0) (room : S → ℕ) : Type 0 where
  pub none : {p : S} → puts p [] p
  pub then : {p q r : S} {xs ys : List ℕ} → puts p xs q → puts q ys r → puts p (xs ++ ys) r
  pub left : {p q : S} {xs : List ℕ} → puts p xs q → room p ≤ room q + length xs
