-- Where an addition to a probe set puts its wire, as the code finds it (4.9, 4.10 of docs/SPECIFICATION.md; that it is the addition is proved).
use Rattle.std.specs.Prelude.{cond, List, [], ◌∷◌, ℕ, suc, ltb}

-- how many stand before the first that is above w
unfoldable pub rank : ℕ → List ℕ → ℕ
rank w [] = 0
rank w (p ∷ ps) = cond (ltb w p) 0 (suc (rank w ps))
