-- The keys of the stretches that begin at sibling i: from a key that is bounded by few candidates to that of the least pair, and back.
use mathlib.Core.Path.{◌≡◌, refl, ◌∙◌}
use Prim.Native.Nat.{ℕ, suc, ◌+◌, ◌*◌, ◌<◌, ◌≤◌}
use native.Mathlib.Omega.{arith}
use Rattle.format.specs.Limits.{Prices, of_repeat}
use Rattle.format.specs.Forest.{Forest, end, step, group, repeat, Plain, Allowed, siblings, nodes, cost}
use Rattle.optimum.specs.Cheapest.{Run, front, back, node, Candidate, plain, power, Power, Spans, Least, usual, rank, price, best_cost}
use Rattle.optimum.proofs.Cut.{run_front, run_back, siblings_le_nodes, siblings_piece, nodes_cut}
use Rattle.optimum.proofs.Powers.{reach, power_front, power_of_front, spans_usual, spans_front}
use Rattle.optimum.proofs.Rank.{rank_usual, rank_add}
use Rattle.optimum.proofs.Least.{price_piece, least_one, least_unique}
use Rattle.optimum.proofs.Level.{plain_at, power_at, bound_at}
use Rattle.optimum.proofs.Cover.{least_by_cover}
use Rattle.optimum.proofs.Cheapest.{best_cost_run, best_cost_end, best_cost_least}
use Rattle.table.specs.Keys.{factor, key, combined_digits, cost_digit, choice_digits, covered, stored_key}
use Rattle.table.specs.Table.{BestKey, Entry, stretch}
use Rattle.table.proofs.Digits.{digits, combined_is, count_is, width_is}
use Rattle.solver.specs.Rows.{Keyed, pair_key}

-- A run costs at most 65,535 times the factor for each node, where labels have prices of 16 bits and repeats are counted.
cost_most : (P : Prices) → ((l : ℕ) → P.of_step l ≤ 65535 * factor) → ((l : ℕ) → P.of_group l ≤ 65535 * factor) → (t : Forest) → Plain t
    → cost P t ≤ 65535 * factor * nodes t
unfolding cost nodes
cost_most P s g end p = omega arith
cost_most P s g (step l f) p = omega (arith, s l, cost_most P s g f p)
cost_most P s g (group l b f) p = omega (arith, g l, cost_most P s g b p.0, cost_most P s g f p.1)
cost_most P s g (repeat h w b f) p = absurd p

-- A run of few nodes at low prices.
pub record Modest (A : Allowed) (P : Prices) (t : Forest) : Type 0 where
  pub run : Run A t
  pub few : nodes t ≤ 1024
  pub step_low : (l : ℕ) → P.of_step l ≤ 65535 * factor
  pub group_low : (l : ℕ) → P.of_group l ≤ 65535 * factor

module _ {A : Allowed} {P : Prices} {t : Forest} (g : Modest A P t) (i : ℕ) where
  rest : Run A (back i t)
  rest = run_back i g.run

  pub piece : (n : ℕ) → Run A (stretch t i n)
  piece n = run_front n rest

  -- Cost and repeats, combined, are below 36 bits.
  pub cost_low : (n : ℕ) → best_cost A P (stretch t i n) ≤ 65535 * factor * 1024
  cost_low n =
      omega (
        arith,
        best_cost_run A P (stretch t i n) (piece n),
        cost_most P g.step_low g.group_low (stretch t i n) (piece n).plain,
        nodes_cut n (back i t),
        nodes_cut i t,
        g.few,
      )

  -- The usual bases serve.
  pub fitting : (n : ℕ) → Spans A usual (stretch t i n)
  fitting n =
      spans_front n rest.plain
      (spans_usual A (back i t) (omega (arith, siblings_le_nodes (back i t) rest.plain, nodes_cut i t, g.few)))

  -- What a key says of its stretch.
  module _ (n k : ℕ) (b : BestKey A P (stretch t i n) k) where
    pub best_entry : Entry A P (stretch t i n) (cost_digit k) (choice_digits k)
    best_entry =
        record {
          best = record { count = b.count; width = b.width; least = b.least; is_rank = omega (arith, b.is_rank) };
          apart = omega arith;
        }

    pub best_combined : combined_digits k ≡ best_cost A P (stretch t i n)
    best_combined = combined_is b (fitting n)

    pub best_covers : covered k ≡ b.count * b.width
    best_covers = rw (count_is b (fitting n), width_is b (fitting n))

    pub best_low : k < stored_key
    best_low = omega (arith, digits b (fitting n), cost_low n)

    is_pair : k ≡ pair_key A P (stretch t i n) b.count b.width
    is_pair = b.is_rank ∙ rw (best_cost_least A P usual (stretch t i n) b.count b.width (piece n) (fitting n) b.least)

    at_most_all : (h w : ℕ) → Candidate A (stretch t i n) h w → k ≤ pair_key A P (stretch t i n) h w
    at_most_all h w c = omega (arith, is_pair, b.least.least h w c)

  -- What a repeat that covers a whole stretch costs there.
  pub whole_price : (n h w : ℕ) → Power A (back i t) h w → h * w ≡ n
      → price P (best_cost A P) (stretch t i n) h w ≡ of_repeat P h + best_cost A P (front w (back i t))
  unfolding front
  whole_price n h w p e = omega (arith, price_piece P (best_cost A P) (back i t) h w 0 n p (omega arith), best_cost_end A P)

  pub whole_candidate : (n h w : ℕ) → Power A (back i t) h w → h * w ≤ n → Candidate A (stretch t i n) h w
  whole_candidate n h w p l = power (power_front n l p)

  pub whole_power : (c h w : ℕ) → h * w ≡ c → 0 < c → Candidate A (stretch t i c) h w → Power A (back i t) h w
  whole_power c h w e pos plain = absurd (omega arith)
  whole_power c h w e pos (power p) = power_of_front c rest.plain p

  -- A repeat that is cheapest for all that it covers, and what follows it.
  module _ (j c m n h w : ℕ) (d : i + c ≡ j) (e : c + m ≡ n) (pos : 0 < c) (f : h * w ≡ c)
      (l : Least A P usual (best_cost A P) (stretch t i c) h w) where
    first_power : Power A (back i t) h w
    first_power = whole_power c h w f pos l.candidate

    pub first_candidate : Candidate A (stretch t i n) h w
    first_candidate = whole_candidate n h w first_power (omega arith)

    pub first_price : price P (best_cost A P) (stretch t i n) h w ≡ best_cost A P (stretch t i c) + best_cost A P (front m (back j t))
    first_price =
        omega (
          arith,
          power_at A P t i j m n h w first_power (omega arith) (omega arith),
          best_cost_least A P usual (stretch t i c) h w (piece c) (fitting c) l,
          whole_price c h w first_power f,
        )

    pub first_key : rank usual (best_cost A P (stretch t i c)) h w + key (best_cost A P (front m (back j t))) 0
        ≡ rank usual (best_cost A P (stretch t i c) + best_cost A P (front m (back j t))) h w
    first_key = omega (arith, rank_add usual (best_cost A P (stretch t i c)) (best_cost A P (front m (back j t))) h w)

  -- The pair of a key is the least one, so there is no other.
  pub best_is : (c h w k : ℕ) → BestKey A P (stretch t i c) k → Least A P usual (best_cost A P) (stretch t i c) h w
      → k ≡ rank usual (best_cost A P (stretch t i c)) h w
  best_is c h w k b l =
      let y = least_unique A P usual (best_cost A P) (stretch t i c) b.count b.width h w (fitting c) b.least l in
      b.is_rank ∙ rw (y.0, y.1)

  -- A key bounded by all that a stretch of n siblings needs is that of its least pair.
  pub keyed_best : (s n k : ℕ) → 0 < n → n ≤ suc s → i + n ≤ siblings t → Keyed A P t i s n k → BestKey A P (stretch t i n) k
  keyed_best s n k pos near fits x =
      let bound =
      bound_at A P usual t i n k g.run fits pos
      (record {
        plain = x.plain;
        whole = λ h w p e. let r = reach p in x.whole h w p e (omega arith);
        first = λ j c m h w d e p q f l whole. x.first j c m h w d e p q f (omega arith) l whole;
      }) in
      let least : Least A P usual (best_cost A P) (stretch t i n) x.count x.width =
      least_by_cover A P usual (stretch t i n) x.count x.width (piece n) (fitting n) x.candidate (rw x.is_key at bound) in
      record {
        count = x.count;
        width = x.width;
        least = least;
        is_rank = x.is_key ∙ rw (best_cost_least A P usual (stretch t i n) x.count x.width (piece n) (fitting n) least);
      }

  -- And that key is bounded by every candidate.
  pub best_keyed : (s n k : ℕ) → BestKey A P (stretch t i n) k → Keyed A P t i s n k
  best_keyed s n k b =
      record {
        count = b.count;
        width = b.width;
        candidate = b.least.candidate;
        is_key = is_pair n k b;
        plain = λ j m d e. rw (plain_at A P t i j m n g.run d e) at (at_most_all n k b 0 0 plain);
        whole = λ h w p e l. rw (whole_price n h w p e) at (at_most_all n k b h w (whole_candidate n h w p (omega arith)));
        first = λ j c m h w d e p q f l v whole.
            rw (first_price j c m n h w d e p f v) at (at_most_all n k b h w (first_candidate j c m n h w d e p f v));
      }

  -- One sibling has only the plain pair.
  pub best_one : (k : ℕ) → i < siblings t → k ≡ key (best_cost A P (node i t)) 0 → BestKey A P (stretch t i 1) k
  best_one k some e =
      record {
        count = 0;
        width = 0;
        least = least_one A P usual (best_cost A P) (stretch t i 1) (omega (arith, siblings_piece i 1 g.run (omega arith)));
        is_rank = omega (arith, rank_usual (best_cost A P (node i t)) 0 0);
      }

  -- The plain node first, before any repeat is offered.
  pub keyed_plain : (m n k : ℕ) → 1 + m ≡ n → k ≡ key (best_cost A P (node i t)) 0 + key (best_cost A P (front m (back (i + 1) t))) 0
      → Keyed A P t i 0 n k
  keyed_plain m n k e f =
      let p = plain_at A P t i (i + 1) m n g.run refl e in
      let r = rank_usual (best_cost A P (node i t) + best_cost A P (front m (back (i + 1) t))) 0 0 in
      record {
        count = 0;
        width = 0;
        candidate = plain;
        is_key = rw p (omega arith);
        plain = λ j m' d d'. let x : m' ≡ m = omega arith in rw (x, ← d) (omega arith);
        whole = λ h w q d l. let y = reach q in absurd (omega arith);
        first = λ j c m h w d e' p q f' l v whole. absurd (omega arith);
      }
