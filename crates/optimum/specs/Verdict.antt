-- What a run, a limit and prices decide: the run's own refusal, or the preferred fold as bytes; and what a folder answers, writes and
-- leaves in its work by that.
use Rattle.std.specs.Prelude.{Bool, false, cond, List, ◌++◌, ℕ, ltb, length, drop, replicate}
use Rattle.format.specs.Limits.{Prices, Tariff, priced, allowed}
use Rattle.format.specs.Forest.{Allowed, form_in, cost}
use Rattle.format.specs.Machine.{Outcome, refused, accepted}
use Rattle.format.specs.Head.{full_head}
use Rattle.format.specs.Readings.{run_outcome_in}
use Rattle.format.specs.declared.kind.Limits.{Limits}
use Rattle.format.specs.Numbers.{Folded}
use Rattle.format.specs.Tree.{tree_of}
use Rattle.optimum.specs.Fewest.{preferred}

-- A refusal, or the nodes of the run, the bytes of the preferred fold and its cost.
pub data Verdict : Type 0 where
  refuses : (number place : ℕ) → Verdict
  folds : (nodes : ℕ) (fold : List ℕ) (cost : ℕ) → Verdict

-- By what the run reads as, the fold in a family; and in the long one.
abbrev pub verdict_in : (short : Bool) → Allowed → Prices → List ℕ → Outcome → Verdict
verdict_in short A P s (refused n p) = refuses n p
verdict_in short A P s (accepted t x) =
    folds t.nodes (form_in short (preferred A P (tree_of s))) (cost P (preferred A P (tree_of s)))

abbrev pub verdict : Allowed → Prices → List ℕ → Outcome → Verdict
verdict A P s o = verdict_in false A P s o

-- Within limits: the checks of tables, limit and marks, then the run's own refusals; or the cheapest fold, in a family.
unfoldable pub folding_by : Limits → (short : Bool) → List ℕ → (limit : ℕ) → Tariff → Verdict
unfolding run_outcome_in
folding_by L short s k T = verdict_in short (allowed k T.marks) (priced T) s (run_outcome_in L (full_head T k) s)

-- The answer and the output where the fold f of cost c is to be written: 14 where the output has no room for it, and then all stays
-- as it was; else the fold in front and the rest as it was.
abbrev pub room_answer : (room : ℕ) → (f : List ℕ) → (c : ℕ) → Folded
room_answer o f c =
    cond (ltb o (length f)) (record { refusal = 14; place = 0; length = 0; cost = 0 })
    (record { refusal = 0; place = 0; length = length f; cost = c })

abbrev pub room_output : (f out : List ℕ) → List ℕ
room_output f out = cond (ltb (length out) (length f)) out (f ++ drop (length f) out)

-- The answer: a refusal of the verdict's own, then 13 where the work is too short for n nodes, then 14.
abbrev pub answer_by : (too_short : ℕ → Bool) → Verdict → (room : ℕ) → Folded
answer_by short (refuses n p) o = record { refusal = n; place = p; length = 0; cost = 0 }
answer_by short (folds n f c) o = cond (short n) (record { refusal = 13; place = 0; length = 0; cost = 0 }) (room_answer o f c)

-- The output afterwards: all as it was after a refusal.
abbrev pub output_by : (too_short : ℕ → Bool) → Verdict → List ℕ → List ℕ
output_by short (refuses n p) out = out
output_by short (folds n f c) out = cond (short n) out (room_output f out)

-- A work slice afterwards: its first entries, as many as n nodes need, cleared and the others as they were; all as it was after
-- a refusal other than 14.
abbrev pub work_by : (too_short : ℕ → Bool) → (entries : ℕ → ℕ) → Verdict → List ℕ → List ℕ
work_by short entries (refuses n p) w = w
work_by short entries (folds n f c) w = cond (short n) w (replicate (entries n) 0 ++ drop (entries n) w)
