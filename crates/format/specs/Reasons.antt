-- Why bytes are refused and how they are accepted, command by command: the words of the theorems about refusals.
use Rattle.std.specs.Prelude.{◌≡◌, Bool, true, false, ◌&&◌, ◌||◌, List, [], ◌∷◌, ◌++◌, ◌≢◌, ◌⊎◌, ℕ, suc, ◌+◌, ◌<◌, eqb, length, get_or, drop}
use Rattle.format.specs.Machine.{Rules, State, Check, ◌when◌, refusal, start, advance, opens_repeat, operands, place_of}
use Rattle.format.specs.declared.tally.Tally.{Tally}

-- Checks of which none applies.
abbrev pub None : List Check → Type 0
None [] = Unit
None (n when b ∷ rs) = (b ≡ false) × None rs

-- The numbers of checks, in their order.
unfoldable pub numbers : List Check → List ℕ
numbers [] = []
numbers (n when b ∷ rs) = n ∷ numbers rs

-- Whether a check of this number holds.
unfoldable pub holds_check : ℕ → List Check → Bool
holds_check n [] = false
holds_check n (m when b ∷ rs) = (eqb m n && b) || holds_check n rs

-- The first check that applies is this one.
pub record First (rs : List Check) (n : ℕ) : Type 0 where
  pub above : List Check
  pub below : List Check
  pub split : rs ≡ above ++ n when true ∷ below
  pub none_above : None above

-- The commands before offset p are all passed, and st is the state at p.
pub data Reached (R : Rules) (s : List ℕ) : ℕ → State → Type 0 where
  at_start : Reached R s 0 start
  passed : {p : ℕ} {st : State} → Reached R s p st → p < length s → refusal R st (get_or s p 0) (drop (suc p) s) ≡ 0
      → Reached R s (suc p + operands (get_or s p 0)) (advance R.prices (get_or s p 0) (drop (suc p) s) st)

-- Why bytes are refused with number n at place e.
pub data Because (R : Rules) (s : List ℕ) (n e : ℕ) : Type 0 where
  at_command : (p : ℕ) (st : State) → Reached R s p st → p < length s → refusal R st (get_or s p 0) (drop (suc p) s) ≡ n
      → n ≢ 0 → e ≡ place_of n p (length s) → Because R s n e
  left_open : (st : State) → Reached R s (length s) st → 0 < length st.opens → n ≡ 3 → e ≡ length s → Because R s n e

-- All commands are passed, and nothing is open at the end: the counts are t and the unrolled bytes x.
pub record Finished (R : Rules) (s : List ℕ) (t : Tally) (x : List ℕ) : Type 0 where
  pub state : State
  pub reached : Reached R s (length s) state
  pub closed : state.opens ≡ []
  pub counts : state.tally ≡ t
  pub unrolled : state.text ≡ x

-- The commands of an open and a close of one kind, group or repeat.
abbrev pub OneKind : (opening closing : ℕ) → Type 0
OneKind c d = ((c ≡ 0x11) × (d ≡ 0x12)) ⊎ ((opens_repeat c ≡ true) × (d ≡ 0x21))

-- The close at offset e stands right after its open: the commands before the open are passed, the open is passed, and nothing
-- but its operands stands between it and the close of its kind.
pub record CloseAfterOpen (R : Rules) (s : List ℕ) (e : ℕ) : Type 0 where
  pub at : ℕ
  pub state : State
  pub reached : Reached R s at state
  pub within : at < length s
  pub passes : refusal R state (get_or s at 0) (drop (suc at) s) ≡ 0
  pub next : suc at + operands (get_or s at 0) ≡ e
  pub there : e < length s
  pub kind : OneKind (get_or s at 0) (get_or s e 0)
