-- The texts that the fold program prints, as lists of ASCII bytes.
use Rattle.std.specs.Prelude.{cond, List, [], ◌∷◌, ◌++◌, ℕ, zero, suc, ◌+◌, ◌/◌, ◌%◌, ltb}

-- The digit of a number below 16: `0` to `9`, then `A` to `F`.
abbrev pub digit : ℕ → ℕ
digit d = cond (ltb d 10) (48 + d) (55 + d)

-- The last decimal digits of n, the highest first: all of them where k is at least their number.
unfoldable pub digits : (k n : ℕ) → List ℕ
digits zero n = []
digits (suc k) n = cond (ltb n 10) (digit n ∷ []) (digits k (n / 10) ++ digit (n % 10) ∷ [])

-- The decimal digits of n, which are at most n + 1.
unfoldable pub decimal : ℕ → List ℕ
unfolding digits
decimal n = digits (suc n) n

-- Each byte by its two digits in capital hexadecimal.
unfoldable pub hexadecimal : List ℕ → List ℕ
hexadecimal [] = []
hexadecimal (b ∷ s) = digit (b / 16) ∷ digit (b % 16) ∷ hexadecimal s

-- The bytes of a fold, `-` if there are none.
unfoldable pub fold_text : List ℕ → List ℕ
unfolding hexadecimal
fold_text [] = 45 ∷ []
fold_text (b ∷ s) = hexadecimal (b ∷ s)

-- A line: a word, a text and the end of the line.
abbrev pub line : (word text : List ℕ) → List ℕ
line word text = word ++ text ++ 10 ∷ []

-- The words `nodes `, `cost `, `fold `, `refused ` and ` at `.
abbrev pub nodes_word : List ℕ
nodes_word = 110 ∷ 111 ∷ 100 ∷ 101 ∷ 115 ∷ 32 ∷ []

abbrev pub cost_word : List ℕ
cost_word = 99 ∷ 111 ∷ 115 ∷ 116 ∷ 32 ∷ []

abbrev pub fold_word : List ℕ
fold_word = 102 ∷ 111 ∷ 108 ∷ 100 ∷ 32 ∷ []

abbrev pub refused_word : List ℕ
refused_word = 114 ∷ 101 ∷ 102 ∷ 117 ∷ 115 ∷ 101 ∷ 100 ∷ 32 ∷ []

abbrev pub at_word : List ℕ
at_word = 32 ∷ 97 ∷ 116 ∷ 32 ∷ []

-- The three lines of a fold.
abbrev pub three_lines : (nodes cost : ℕ) → (fold : List ℕ) → List ℕ
three_lines nodes cost fold =
    line nodes_word (decimal nodes) ++ line cost_word (decimal cost) ++ line fold_word (fold_text fold)

-- The one line of a refusal.
abbrev pub refusal_line : (number place : ℕ) → List ℕ
refusal_line number place = refused_word ++ decimal number ++ line at_word (decimal place)
