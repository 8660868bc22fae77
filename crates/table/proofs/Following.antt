-- The siblings of a sequence, followed from number to number in the listing of its run.
use mathlib.Core.Path.{◌≡◌, sym, ap, ◌∙◌}
use mathlib.Core.List.{List}
use Prim.Native.Nat.{ℕ, ◌+◌, ◌-◌, ◌<◌, ◌≤◌}
use native.Mathlib.Decide.{dec_lt}
use native.Mathlib.Omega.{arith}
use lib.ListN.{length, get_or, set, length-set}
use Rattle.format.specs.Forest.{Forest, siblings, nodes, Allowed, at_most}
use Rattle.format.specs.Tree.{tree_of}
use Rattle.optimum.specs.Cheapest.{Run}
use Rattle.optimum.proofs.Cut.{front_whole, siblings_le_nodes}
use Rattle.table.specs.Table.{number}
use Rattle.table.specs.Listing.{Spelled, Placed, Numbered}
use Rattle.table.specs.Nodes.{NodesListed, SpanListed, Reached}
use Rattle.table.specs.declared.nodes.Span.{Span}
use Rattle.table.proofs.Listings.{entry_more, place}
use Rattle.table.proofs.Tables.{number_within, number_first, number_last, number_fall}
use Rattle.table.proofs.ByNumber.{listed_place, listed_next}

-- From the first sibling on.
pub reached_none : (b : ℕ) (t : Forest) (q : ℕ) → q ≡ b + nodes t → Reached b t 0 q
reached_none b t q e = record { few = omega arith; numbered = e ∙ sym (number_first b t) }

module _ (A : Allowed) (b : ℕ) (t : Forest) (r : Run A t) (i q : ℕ) (w : Reached b t i q) where
  -- Siblings are left exactly where the number is above that of the end.
  pub reached_on : b < q → i < siblings t
  reached_on h = by_order (dec_lt i (siblings t))
    where
      by_order : Dec (i < siblings t) → i < siblings t
      by_order (yes l) = l
      by_order (no l) =
          let e : i ≡ siblings t = omega (arith, w.few) in
          absurd (omega (arith, w.numbered, rw e at w.numbered, number_last b t r.plain))

  pub reached_all : q ≤ b → i ≡ siblings t
  reached_all h = by_order (dec_lt i (siblings t))
    where
      by_order : Dec (i < siblings t) → i ≡ siblings t
      by_order (yes l) = absurd (omega (arith, w.numbered, number_fall A b i (siblings t) t r l (omega arith), number_last b t r.plain))
      by_order (no l) = omega (arith, w.few)

  pub reached_within : (i ≤ nodes t) × (q ≤ b + nodes t)
  reached_within = (omega (arith, w.few, siblings_le_nodes t r.plain), omega (arith, w.numbered, number_within b i t))

  -- One more.
  module _ (places nexts : List ℕ) (start : ℕ) (h : NodesListed places nexts start b t) (more : b < q) where
    pub reached_place : get_or places q 0 ≡ start + place i t
    reached_place = rw w.numbered (listed_place places nexts A start b t r h i (reached_on more))

    pub reached_next : Reached b t (i + 1) (get_or nexts q 0)
    reached_next =
        record {
          few = omega (arith, reached_on more);
          numbered = rw w.numbered (listed_next places nexts A start b t r h i (reached_on more));
        }

    pub reached_less : get_or nexts q 0 < q
    reached_less =
        omega (arith, w.numbered, reached_next.numbered, number_fall A b i (i + 1) t r (omega arith) (omega (arith, reached_on more)))

-- Past the last sibling the bytes end.
pub reached_end : (s : List ℕ) → Spelled s → (b i q : ℕ) → Reached b (tree_of s) i q → q ≤ b → length s ≡ place i (tree_of s)
reached_end s z b i q w h =
    let r = z.run (at_most 0) in
    ap length (sym z.form) ∙ rw (front_whole i (tree_of s) r.plain (sym (reached_all (at_most 0) b (tree_of s) r i q w h)))

-- In a listed span the numbers are below those that a list of nodes has.
pub span_few : {places nexts s : List ℕ} {span : Span} {q i : ℕ} → Spelled s → SpanListed places nexts span (tree_of s)
    → Reached span.behind (tree_of s) i q → q ≤ 1024
span_few z l w = omega (arith, reached_within (at_most 0) _ _ (z.run (at_most 0)) _ _ w, l)

-- The first m siblings are listed, and the next one has the number q.
pub record Followed (b : ℕ) (t : Forest) (offsets numbers : List ℕ) (m q : ℕ) : Type 0 where
  pub reached : Reached b t m q
  pub long_offsets : length offsets ≡ 1025
  pub long_numbers : length numbers ≡ 1025
  pub offset : (i : ℕ) → i < m → get_or offsets i 0 ≡ place i t
  pub numbered : (i : ℕ) → i < m → get_or numbers i 0 ≡ number b t i

pub followed_none : (b : ℕ) (t : Forest) (offsets numbers : List ℕ) (q : ℕ) → q ≡ b + nodes t → length offsets ≡ 1025 → length numbers ≡ 1025
    → Followed b t offsets numbers 0 q
followed_none b t offsets numbers q e long long' =
    record {
      reached = reached_none b t q e;
      long_offsets = long;
      long_numbers = long';
      offset = λ i h. absurd (omega arith);
      numbered = λ i h. absurd (omega arith);
    }

-- One more.
module _ (A : Allowed) (b : ℕ) (t : Forest) (r : Run A t) (offsets numbers : List ℕ) (m q : ℕ) (w : Followed b t offsets numbers m q)
    (places nexts : List ℕ) (start : ℕ) (h : NodesListed places nexts start b t) (few : b + nodes t ≤ 1024) (more : b < q) where
  pub followed_more : Followed b t (set offsets m (get_or places q 0 - start)) (set numbers m q) (m + 1) (get_or nexts q 0)
  followed_more =
      let room = (reached_within A b t r m q w.reached).0 in
      record {
        reached = reached_next A b t r m q w.reached places nexts start h more;
        long_offsets = simp length-set w.long_offsets;
        long_numbers = simp length-set w.long_numbers;
        offset =
            entry_more (λ i x. x ≡ place i t) offsets m (get_or places q 0 - start) (omega (arith, w.long_offsets)) w.offset
            (omega (arith, reached_place A b t r m q w.reached places nexts start h more));
        numbered = entry_more (λ i x. x ≡ number b t i) numbers m q (omega (arith, w.long_numbers)) w.numbered w.reached.numbered;
      }

-- And the end, where no sibling is left.
module _ (s : List ℕ) (z : Spelled s) (b : ℕ) (offsets numbers : List ℕ) (m q : ℕ) (w : Followed b (tree_of s) offsets numbers m q)
    (few : b + nodes (tree_of s) ≤ 1024) (last : q ≤ b) where
  all_followed : m ≡ siblings (tree_of s)
  all_followed = reached_all (at_most 0) b (tree_of s) (z.run (at_most 0)) m q w.reached last

  room_behind : m ≤ nodes (tree_of s)
  room_behind = (reached_within (at_most 0) b (tree_of s) (z.run (at_most 0)) m q w.reached).0

  pub followed_placed : Placed s (set offsets m (length s))
  followed_placed =
      record {
        offset = λ i h.
            entry_more (λ j x. x ≡ place j (tree_of s)) offsets m (length s) (omega (arith, w.long_offsets, room_behind)) w.offset
            (reached_end s z b m q w.reached last) i (omega (arith, all_followed));
      }

  pub followed_numbered : Numbered b (tree_of s) (set numbers m b)
  followed_numbered =
      let ends : b ≡ number b (tree_of s) m = rw all_followed (sym (number_last b (tree_of s) (z.run (at_most 0)).plain)) in
      record {
        numbered = λ i h.
            entry_more (λ j x. x ≡ number b (tree_of s) j) numbers m b (omega (arith, w.long_numbers, room_behind)) w.numbered ends i
            (omega (arith, all_followed));
      }
