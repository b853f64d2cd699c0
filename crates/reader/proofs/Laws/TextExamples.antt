-- Worked texts: what reading each of them gives, computed from the definitions and proved together as one list.
use Rattle.std.specs.Prelude.{◌≡◌, refl, Option, Some, List, [], ◌∷◌, ◌++◌, map, ℕ, zero, suc, replicate}
use Prim.Native.Char.{code}
use Prim.Native.String.{String, [] as none, ◌∷◌ as ◌then◌}
use Rattle.data.specs.Refusals.{number_of}
use Rattle.document.specs.Lines.{text_of_lines}
use Rattle.document.specs.Reading.{whole_reading}
use Rattle.document.specs.Reading.{reading, routine_in}
use Rattle.document.proofs.Examples.{example_a}
use Rattle.data.specs.declared.Line.{Line}
use Rattle.data.specs.declared.Line.TheVariants.{Head, Rand, Pub, Not, Out}
use Rattle.data.specs.Refusals.{Outcome}
use Rattle.std.specs.Prelude.{Ok, Err}
use Rattle.data.specs.declared.Read.{Read}

unfoldable pub bytes : String → List ℕ
bytes none = []
bytes (c then cs) = code c ∷ bytes cs

-- what a read says: the number of the refusal (0: none), its line, S, D and n
abbrev number_in : Outcome → ℕ
number_in (Ok u) = 0
number_in (Err f) = number_of f

abbrev answer : Read → List ℕ
answer r =
    let σ = r.listing.shape in
    number_in r.outcome ∷ r.line ∷ σ.s ∷ σ.d ∷ σ.n ∷ []

-- a text, and what reading it says
pub record Case : Type 0 where
  pub text : List ℕ
  pub says : List ℕ

-- 1.36, 1.37: an accepted text has line number 0, and S, D and n of its routine
abbrev reads : List ℕ → ℕ → ℕ → ℕ → Case
reads t s d n = record { text = t; says = 0 ∷ 0 ∷ s ∷ d ∷ n ∷ [] }

-- 1.38, 1.46: refusal f at line k, where S, D and n are 0
abbrev refuses : List ℕ → ℕ → ℕ → Case
refuses t f k = record { text = t; says = f ∷ k ∷ 0 ∷ 0 ∷ 0 ∷ [] }

-- the lines `f w`, m of them, from wire w on
unfoldable pub lines_from : (ℕ → Line) → ℕ → ℕ → List (Option Line)
lines_from f zero w = []
lines_from f (suc m) w = Some (f w) ∷ lines_from f m (suc w)

-- 1 secret of 2 shares, m wires more, and these lines behind them
unfoldable pub small : (ℕ → Line) → ℕ → List (Option Line) → List ℕ
small f m ls = text_of_lines (Some (Head 1 2) ∷ lines_from f m 2 ++ ls)

-- 8 secrets of 8 shares, the first m of them outputs, and these lines behind them
unfoldable pub wide : ℕ → List (Option Line) → List ℕ
wide m ls = text_of_lines (Some (Head 8 8) ∷ lines_from Out m 0 ++ ls)

-- 10.1: the text of Example A
abbrev pub text_a : List ℕ
text_a = bytes "routine\t1\t3\nrand\t3\nxor\t4\t0\t3\nxor\t5\t1\t3\nrand\t6\nxor\t7\t4\t6\nxor\t8\t2\t6\nout\t5\nout\t7\nout\t8\n"

unfoldable pub worked_cases : List Case
worked_cases =
    reads text_a 1 3 9
    ∷ reads (bytes "routine\t1\t2\n") 1 2 2
    -- 1, by 7.1, 1.51 and 10.18: a text of 4,096 bytes gets past it, one of 4,097 does not
    ∷ refuses (bytes "") 1 0
    ∷ refuses (bytes "routine\t1\t2\n" ++ replicate 4084 10) 5 2
    ∷ refuses (bytes "routine\t1\t2\n" ++ replicate 4085 10) 1 0
    -- 2, before the first line is looked at
    ∷ refuses (bytes "routine\t1\t2") 2 0
    ∷ refuses (bytes "rotine\t1\t2\nrand\t2\nRAND\t3\n") 2 0
    -- 3, before 4
    ∷ refuses (bytes "\n") 3 1
    ∷ refuses (bytes "rand\t2\n") 3 1
    ∷ refuses (bytes "routine\t9\t02\n") 3 1
    ∷ refuses (bytes "routine\t1\t1000\n") 3 1
    -- 4, before the later lines
    ∷ refuses (bytes "routine\t1\t999\nrnd\t2\n") 4 1
    ∷ refuses (bytes "routine\t0\t2\n") 4 1
    ∷ refuses (bytes "routine\t9\t2\n") 4 1
    ∷ refuses (bytes "routine\t1\t1\n") 4 1
    ∷ refuses (bytes "routine\t1\t9\n") 4 1
    -- 5, before 6
    ∷ refuses (bytes "routine\t1\t2\n\n") 5 2
    ∷ refuses (bytes "routine\t1\t2\nrnd\t2\n") 5 2
    ∷ refuses (bytes "routine\t1\t2\nrand\t02\n") 5 2
    ∷ refuses (bytes "routine\t1\t2\nrand\t\t2\n") 5 2
    ∷ refuses (bytes "routine\t1\t2\nxor\t2\t0\n") 5 2
    ∷ refuses (bytes "routine\t1\t2\nrand\t2\t0\t0\t0\n") 5 2
    ∷ refuses (bytes "routine\t1\t2\nroutine\t1\t2\n") 5 2
    ∷ refuses (bytes "routine\t1\t2\nout\t0\nxor\t9\t9\n") 5 3
    -- 6, before 7
    ∷ refuses (bytes "routine\t1\t2\nxor\t3\t9\t0\n") 6 2
    ∷ refuses (bytes "routine\t1\t2\nout\t0\nxor\t2\t9\t0\n") 6 3
    -- 7, before 8
    ∷ refuses (bytes "routine\t1\t2\nxor\t2\t2\t0\n") 7 2
    ∷ refuses (bytes "routine\t1\t2\nnot\t2\t3\n") 7 2
    ∷ refuses (small (λ w. Not w 0) 126 (Some (Not 128 128) ∷ [])) 7 128
    -- 8, by 7.8 and 10.18: there may be a wire 127, but none numbered 128; 8 before 9 (1.44)
    ∷ reads (small (λ w. Not w 0) 126 []) 1 2 128
    ∷ refuses (small (λ w. Not w 0) 127 []) 8 128
    ∷ reads (small Rand 64 []) 1 2 66
    ∷ refuses (small Rand 65 []) 8 66
    ∷ reads (small Pub 16 []) 1 2 18
    ∷ refuses (small Pub 17 []) 8 18
    ∷ reads (wide 64 []) 8 8 64
    ∷ refuses (wide 64 (Some (Out 0) ∷ [])) 8 66
    -- 9; the first line at fault is the one that counts
    ∷ refuses (bytes "routine\t1\t2\nout\t2\n") 9 2
    ∷ refuses (bytes "routine\t1\t2\nout\t1\nout\t1\n") 9 3
    ∷ refuses (bytes "routine\t1\t2\nout\t1\nout\t0\nrnd\t2\n") 9 3
    ∷ []

pub worked_texts :
    (map (λ (c : Case). answer (reading c.text)) worked_cases ≡ map (λ (c : Case). c.says) worked_cases)
    × (routine_in (reading text_a).listing ≡ example_a)
unfolding bytes lines_from small wide worked_cases whole_reading
worked_texts = (refl, refl)
