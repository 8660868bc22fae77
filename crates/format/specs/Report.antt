-- The repetition representation trees of the report that README.md cites, in its own words: expansion, representing, width
-- and size. Its strings (section 2.1) are the forests in which no letter has children, their length is the size.
use Rattle.std.specs.Prelude.{◌≡◌, ℕ, zero, suc, ◌+◌, ◌≤◌, ◌<◌}

-- Section 3.1. The children of one node, in order: none, or the first with its own children, and the siblings after it.
-- A node bears a letter of the alphabet or, as a repetition information node, a number. A tree is one letter over a forest.
pub data RRT (Σ : Type 0) : Type 0 where
  empty : RRT Σ
  letter : (a : Σ) → (children next : RRT Σ) → RRT Σ
  repetition : (h : ℕ) → (children next : RRT Σ) → RRT Σ

-- How many nodes stand side by side (c(v) for the children of v).
unfoldable pub count : {Σ : Type 0} → RRT Σ → ℕ
count empty = 0
count (letter a c r) = 1 + count r
count (repetition h c r) = 1 + count r

-- A repetition information node has a number of at least 2 and is no leaf. It is no root either: the root is a letter.
abbrev pub Valid : {Σ : Type 0} → RRT Σ → Type 0
Valid empty = Unit
Valid (letter a c r) = Valid c × Valid r
Valid (repetition h c r) = (2 ≤ h) × (0 < count c) × Valid c × Valid r

-- A general labelled ordered tree: no repetition information node anywhere.
abbrev pub Ordinary : {Σ : Type 0} → RRT Σ → Type 0
Ordinary empty = Unit
Ordinary (letter a c r) = Ordinary c × Ordinary r
Ordinary (repetition h c r) = ⊥

-- One series of siblings after another; h copies of one, side by side.
unfoldable pub append : {Σ : Type 0} → RRT Σ → RRT Σ → RRT Σ
append empty s = s
append (letter a c r) s = letter a c (append r s)
append (repetition h c r) s = repetition h c (append r s)

unfoldable pub series : {Σ : Type 0} → ℕ → RRT Σ → RRT Σ
unfolding append
series zero c = empty
series (suc h) c = append c (series h c)

-- Sections 2.1 and 3.1: expansion of one repetition information node, wherever it stands. In its place its parent gets its
-- children h times.
pub data Expands {Σ : Type 0} : RRT Σ → RRT Σ → Type 0 where
  this : {h : ℕ} {c r : RRT Σ} → Expands (repetition h c r) (append (series h c) r)
  under_letter : {a : Σ} {c d r : RRT Σ} → Expands c d → Expands (letter a c r) (letter a d r)
  under_repetition : {h : ℕ} {c d r : RRT Σ} → Expands c d → Expands (repetition h c r) (repetition h d r)
  after_letter : {a : Σ} {c r s : RRT Σ} → Expands r s → Expands (letter a c r) (letter a c s)
  after_repetition : {h : ℕ} {c r s : RRT Σ} → Expands r s → Expands (repetition h c r) (repetition h c s)

-- A sequence of expansions, in any order.
pub data Leads {Σ : Type 0} : RRT Σ → RRT Σ → Type 0 where
  done : {r : RRT Σ} → Leads r r
  more : {r s t : RRT Σ} → Expands r s → Leads s t → Leads r t

-- r represents t: expanding leads from r to t, and t has nothing left to expand.
pub record Represents {Σ : Type 0} (r t : RRT Σ) : Type 0 where
  pub expansions : Leads r t
  pub ordinary : Ordinary t

-- Sections 2.3 and 3.1. The width of a repetition information node with the children c: how many there are of them once
-- all the repetitions below the node are expanded.
pub record Width {Σ : Type 0} (c : RRT Σ) (w : ℕ) : Type 0 where
  pub expanded : RRT Σ
  pub represented : Represents c expanded
  pub counted : count expanded ≡ w

-- Width-k: no repetition information node is wider than k.
abbrev pub WidthAtMost : {Σ : Type 0} → ℕ → RRT Σ → Type 0
WidthAtMost k empty = Unit
WidthAtMost k (letter a c r) = WidthAtMost k c × WidthAtMost k r
WidthAtMost k (repetition h c r) = ((w : ℕ) → Width c w → w ≤ k) × WidthAtMost k c × WidthAtMost k r

-- Sections 2.1 and 3.1. The size (of a string, the length) by an alphabet weight and a repetition weight, here natural
-- numbers: each node's own weight, once, however often it is repeated.
unfoldable pub size : {Σ : Type 0} → (Σ → ℕ) → (ℕ → ℕ) → RRT Σ → ℕ
size letters numbers empty = 0
size letters numbers (letter a c r) = letters a + size letters numbers c + size letters numbers r
size letters numbers (repetition h c r) = numbers h + size letters numbers c + size letters numbers r
