-- The keys of a row, put in one after another: those copied from another row, those of the plain node, and those pushed.
use mathlib.Core.Path.{◌≡◌, refl, ◌∙◌}
use mathlib.Core.Logic.{◌⊎◌, inl, inr, ⊎_elim}
use mathlib.Core.List.{List}
use Prim.Native.Nat.{ℕ, ◌+◌, ◌≤◌, ◌<◌}
use native.Mathlib.Decide.{dec_le, dec_lt}
use native.Mathlib.Omega.{arith}
use lib.ListN.{length, get_or, set, length-set}
use lib.Seq.{get_or-set_same, get_or-set_other}
use Rattle.solver.specs.declared.row.Row.{Row}
use Rattle.table.specs.Keys.{top_key, stored_key, combined_base, key, covered}
use Rattle.solver.specs.Rows.{behind_key, Copied, Plainly, Pushing, Started, KeysReady, TailsReady, Pushed, push, pass, skip, Widened, offer, too_wide, unlike}
use Rattle.table.specs.Table.{key_at, rest_key}
use Rattle.table.proofs.Listings.{entry_more, entry_all}

-- The places from `from` up to below d have something of which Q holds, the others what they had.
pub record Put (Q : ℕ → ℕ → Type 0) (from d : ℕ) (before now : List ℕ) : Type 0 where
  pub late : from ≤ d
  pub same_length : length now ≡ length before
  pub put : (c : ℕ) → from ≤ c → c < d → Q c (get_or now c 0)
  pub kept : (c : ℕ) → (c < from) ⊎ (d ≤ c) → get_or now c 0 ≡ get_or before c 0

module _ (Q : ℕ → ℕ → Type 0) (from : ℕ) (before : List ℕ) where
  pub put_none : Put Q from from before before
  put_none = record { late = omega arith; same_length = refl; put = λ c l m. absurd (omega arith); kept = λ c l. refl }

  module _ (d : ℕ) (now : List ℕ) (p : Put Q from d before now) where
    pub put_more : (x : ℕ) → d < length before → Q d x → Put Q from (d + 1) before (set now d x)
    put_more x short q =
        record {
          late = omega (arith, p.late);
          same_length = simp length-set p.same_length;
          put = λ c a b. entry_more (λ e y. from ≤ e → Q e y) now d x (omega (arith, p.same_length)) (λ e l m. p.put e m l) (λ l. q) c b a;
          kept = λ c l. get_or-set_other now d c x 0 (λ e. ⊎_elim (λ a. omega (arith, p.late)) (λ a. omega arith) l)
              ∙ p.kept c (⊎_elim (λ a. inl a) (λ a. inr (omega arith)) l);
        }

    -- What holds of what was there, and of what is put in, holds of all.
    pub put_all : (R : ℕ → ℕ → Type 0) → ((c : ℕ) → R c (get_or before c 0)) → ((c x : ℕ) → from ≤ c → Q c x → R c x)
        → (c : ℕ) → R c (get_or now c 0)
    put_all R old new c = by_place (dec_le from c) (dec_lt c d)
      where
        by_place : Dec (from ≤ c) → Dec (c < d) → R c (get_or now c 0)
        by_place (yes a) (yes b) = new c (get_or now c 0) a (p.put c a b)
        by_place (yes a) (no b) = rw (p.kept c (inr (omega arith))) (old c)
        by_place (no a) b = rw (p.kept c (inl (omega arith))) (old c)

-- The keys of another row.
abbrev pub OfRow : (costs choices numbers : List ℕ) (j : ℕ) → ℕ → ℕ → Type 0
OfRow costs choices numbers j c x = (x ≤ top_key) × (x ≡ key_at costs choices numbers j (j + c))

pub copied_all : (costs choices numbers : List ℕ) (j n d : ℕ) (before now : List ℕ) → ((c : ℕ) → get_or before c 0 ≤ top_key) → n < d
    → Put (OfRow costs choices numbers j) 1 d before now → Copied costs choices numbers j n before now
copied_all costs choices numbers j n d before now low past p =
    record {
      long = p.same_length;
      low = put_all _ _ _ _ _ p (λ c x. x ≤ top_key) low (λ c x l q. q.0);
      copied = λ c l m. (p.put c (omega arith) (omega arith)).1;
    }

-- Those of the plain node with what follows it.
abbrev pub OfPlain : (costs choices numbers : List ℕ) (row : Row) → ℕ → ℕ → Type 0
OfPlain costs choices numbers row c x = (x ≤ top_key) × (x ≡ key row.own 0 + rest_key costs choices numbers (row.at + 1) (row.at + c))

pub plainly_all : (costs choices numbers : List ℕ) (row : Row) (from d : ℕ) (before now : List ℕ) → ((c : ℕ) → get_or before c 0 ≤ top_key)
    → row.extent < d → Put (OfPlain costs choices numbers row) from d before now → Plainly costs choices numbers row from before now
plainly_all costs choices numbers row from d before now low past p =
    record {
      long = p.same_length;
      low = put_all _ _ _ _ _ p (λ c x. x ≤ top_key) low (λ c x l q. q.0);
      kept = λ c l. p.kept c (inl l);
      plain = λ c l m. (p.put c l (omega arith)).1;
    }

-- The lesser of what was there and what is pushed.
abbrev pub push_key : (costs choices numbers tails : List ℕ) (row : Row) (c k : ℕ) → ℕ → ℕ
push_key costs choices numbers tails row c k d = k + behind_key costs choices numbers tails row.end (row.at + c) (row.at + d)

abbrev pub OfPush : (costs choices numbers tails : List ℕ) (row : Row) (c k : ℕ) (before : List ℕ) → ℕ → ℕ → Type 0
OfPush costs choices numbers tails row c k before d x =
    (d ≤ row.extent)
    × (x ≤ push_key costs choices numbers tails row c k d)
    × (x ≤ get_or before d 0)
    × ((x ≡ push_key costs choices numbers tails row c k d) ⊎ (x ≡ get_or before d 0))

pub pushing_all : (costs choices numbers tails : List ℕ) (row : Row) (c k from d : ℕ) (before now : List ℕ) → row.extent < d
    → Put (OfPush costs choices numbers tails row c k before) from d before now → Pushing costs choices numbers tails row c k from before now
pushing_all costs choices numbers tails row c k from d before now past p =
    record {
      same_length = p.same_length;
      lower = put_all _ _ _ _ _ p (λ e x. x ≤ get_or before e 0) (λ e. omega arith) (λ e x l q. q.2);
      pushed = λ e l m. (p.put e l (omega arith)).1;
      came = put_all _ _ _ _ _ p
          (λ e x. (x ≡ get_or before e 0) ⊎ ((from ≤ e) × (e ≤ row.extent) × (x ≡ push_key costs choices numbers tails row c k e)))
          (λ e. inl refl)
          (λ e x l q. ⊎_elim (λ z. inr (l, q.0, z)) (λ z. inl z) q.3);
    }

-- After a copy, the key of the one sibling may be put in.
pub one_ready : {costs choices numbers : List ℕ} {j n own k : ℕ} {start between : List ℕ} → k ≡ key own 0 → KeysReady start → own < combined_base
    → Copied costs choices numbers j n start between → KeysReady (set between 1 k)
one_ready {k = k} {between = between} e ready small copied =
    record {
      long = length-set between 1 k ∙ copied.long ∙ ready.long;
      low = entry_all (λ x. x ≤ top_key) between 1 k (omega (arith, copied.long, ready.long)) copied.low (omega arith);
    }

-- The three parts of a row's first keys: those copied, that of the one sibling, and those of the plain node past both.
pub started : (costs choices numbers : List ℕ) (row : Row) (from k : ℕ) (start between keys : List ℕ) → k ≡ key row.own 0 → KeysReady start
    → 1 < from → row.span < from → ((c : ℕ) → 1 < c → row.span < c → from ≤ c)
    → Copied costs choices numbers (row.at + row.shift) row.span start between → Plainly costs choices numbers row from (set between 1 k) keys
    → Started costs choices numbers row keys
started costs choices numbers row from k start between keys e ready twice past first copied plainly =
    record {
      ready = record { long = plainly.long ∙ length-set between 1 k ∙ copied.long ∙ ready.long; low = plainly.low };
      one = plainly.kept 1 (omega arith) ∙ get_or-set_same between 1 k 0 (omega (arith, copied.long, ready.long)) ∙ e;
      copied = λ c l m. plainly.kept c (omega arith)
          ∙ get_or-set_other between 1 c k 0 (λ q. omega arith)
          ∙ copied.copied c (omega arith) m;
      plain = λ c l m h. plainly.plain c (first c l m) h;
    }

-- The keys stay as they may be worked on.
ready_lower : {before after : List ℕ} → KeysReady before → length after ≡ length before → ((c : ℕ) → get_or after c 0 ≤ get_or before c 0) → KeysReady after
ready_lower k e l = record { long = e ∙ k.long; low = λ c. omega (arith, l c, k.low c) }

-- A stretch whose key is that of a repeat that covers it is pushed from the first size above both its own and those taken over.
pub pushed_past : {costs choices numbers tails : List ℕ} {row : Row} {stops : List ℕ} {d k from : ℕ} {before after : List ℕ}
    → Pushing costs choices numbers tails row d k from before after → covered k ≡ d → d < from → row.span < from
    → ((c : ℕ) → d < c → row.span < c → from ≤ c) → Pushed costs choices numbers tails row stops d k before after
pushed_past {from = from} x e a b f = push from a b f e x

pub pushed_ready : {costs choices numbers tails : List ℕ} {row : Row} {stops : List ℕ} {d k : ℕ} {before after : List ℕ} → KeysReady before
    → Pushed costs choices numbers tails row stops d k before after → KeysReady after
pushed_ready r (push from a b c f p) = ready_lower r p.same_length p.lower
pushed_ready r (pass f x) = rw x r
pushed_ready r (skip a b c x) = rw x r

pub widened_ready : {row : Row} {prices : List ℕ} {cost d match : ℕ} {before after : List ℕ} → KeysReady before
    → Widened row prices cost d match before after → KeysReady after
widened_ready r (offer from a b c f p) = ready_lower r p.same_length p.lower
widened_ready r (too_wide f x) = rw x r
widened_ready r (unlike f x) = rw x r

pub tails_ready : {tails : List ℕ} (at tail : ℕ) → at < 1025 → tail ≤ stored_key → TailsReady tails → TailsReady (set tails at tail)
tails_ready {tails} at tail short low r =
    record {
      long = simp length-set r.long;
      low = entry_all (λ x. x ≤ stored_key) tails at tail (omega (arith, r.long)) r.low low;
    }
