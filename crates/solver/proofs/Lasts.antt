-- The stretch up to the end: the least of the candidates that are looked at is its key.
use mathlib.Core.Path.{◌≡◌, refl, sym, ◌∙◌}
use mathlib.Core.List.{List}
use Prim.Native.Nat.{ℕ, ◌+◌, ◌-◌, ◌*◌, ◌<◌, ◌≤◌}
use native.Mathlib.Decide.{dec_le}
use native.Mathlib.Omega.{arith}
use lib.ListN.{get_or}
use Rattle.format.specs.Limits.{Prices, of_repeat}
use Rattle.format.specs.Forest.{Forest, Allowed}
use Rattle.optimum.specs.Cheapest.{front, back, node, plain, Power, Least, usual, rank, price, best_cost}
use Rattle.optimum.proofs.Cut.{run_back}
use Rattle.optimum.proofs.Powers.{reach}
use Rattle.optimum.proofs.Rank.{rank_usual}
use Rattle.optimum.proofs.Least.{least_unique}
use Rattle.optimum.proofs.Level.{plain_at, power_at}
use Rattle.table.specs.Keys.{key, combined_digits, covered}
use Rattle.table.specs.Table.{BestKey, stretch}
use Rattle.solver.specs.declared.row.Row.{Row}
use Rattle.solver.specs.Rows.{RowReady, Rowed, Keyed, pair_key}
use Rattle.solver.specs.Ends.{Beyond, EndCame, by_plain, by_cover, by_repeat, Ending, repeat_end}
use Rattle.optimum.proofs.Matches.{near_power, power_near}
use Rattle.solver.proofs.Extents.{drawn_body}
use Rattle.solver.proofs.Stretches.{fitting, best_combined, best_covers, best_is, whole_price, whole_candidate, whole_power, first_candidate, first_price, first_key, keyed_best}
use Rattle.solver.proofs.Solving.{Pair, modest, from_here, few, tail_adds, matched, solved}

module _ {costs choices numbers : List ℕ} {row : Row} {prices same tails stops : List ℕ}
    (z : RowReady costs choices numbers row prices same tails stops) (keys : List ℕ) (r : Rowed z row.extent keys) (n last : ℕ)
    (all : row.at + n ≡ row.end) (short : row.extent < n) (ending : Ending row prices same tails keys row.extent last) where
  abbrev i : ℕ
  i = row.at

  abbrev A : Allowed
  A = z.allowed

  abbrev P : Prices
  P = z.prices_are

  abbrev t : Forest
  t = z.tree

  -- What follows the first c siblings, as the list has it.
  tail_is : (c rest : ℕ) → 0 < c → c + rest ≡ n → get_or tails (i + c) 0 ≡ key (best_cost A P (front rest (back (i + c) t))) 0
  tail_is c rest p e = tail_adds z c rest p (omega arith)

  -- A solved stretch, and what it costs.
  its_best : (d : ℕ) → 0 < d → d ≤ row.extent → BestKey A P (stretch t i d) (get_or keys d 0)
  its_best = solved z keys r

  its_cost : (d : ℕ) → 0 < d → d ≤ row.extent → combined_digits (get_or keys d 0) ≡ best_cost A P (stretch t i d)
  its_cost d p l = best_combined (modest z) i d (get_or keys d 0) (its_best d p l)

  -- A repeat that covers more than is solved, with the tail behind it.
  repeat_key : (d h : ℕ) → 0 < d → d ≤ row.extent → Power A (back i t) h d → h * d ≤ n
      → repeat_end row prices tails (combined_digits (get_or keys d 0)) d h ≡ pair_key A P (stretch t i n) h d
  repeat_key d h p l q fits =
      let rest = n - h * d in
      let y = reach q in
      let paid = power_at A P t i (i + h * d) rest n h d q refl (omega arith) in
      omega (
        arith,
        its_cost d p l,
        z.priced.price_of h q.repeats.twice (omega (arith, few z)),
        tail_is (h * d) rest (omega (arith, q.repeats.twice)) (omega arith),
        rank_usual (price P (best_cost A P) (stretch t i n) h d) h d,
      )

  -- The candidates are some of the pairs that may stand first,
  pair : EndCame row prices same tails keys row.extent last → Pair A P (stretch t i n) last
  pair (by_plain e) =
      let paid = plain_at A P t i (i + 1) (n - 1) n z.run refl (omega arith) in
      record {
        count = 0;
        width = 0;
        candidate = plain;
        is_key = omega (
          arith,
          z.own_cost,
          tail_is 1 (n - 1) (omega arith) (omega arith),
          rank_usual (price P (best_cost A P) (stretch t i n) 0 0) 0 0,
        );
      }
  pair (by_cover d p l f e) =
      let b = its_best d p l in
      let g : b.count * b.width ≡ d = sym (best_covers (modest z) i d (get_or keys d 0) b) ∙ f in
      let k : last ≡ rank usual (best_cost A P (stretch t i d) + best_cost A P (front (n - d) (back (i + d) t))) b.count b.width =
      omega (
        arith,
        b.is_rank,
        tail_is d (n - d) p (omega arith),
        first_key (modest z) i (i + d) d (n - d) n b.count b.width refl (omega arith) p g b.least,
      ) in
      record {
        count = b.count;
        width = b.width;
        candidate = first_candidate (modest z) i (i + d) d (n - d) n b.count b.width refl (omega arith) p g b.least;
        is_key = k ∙ rw (first_price (modest z) i (i + d) d (n - d) n b.count b.width refl (omega arith) p g b.least);
      }
  pair (by_repeat d h p l f b e) =
      let q = near_power h d (get_or same d 0) (run_back i z.run) p (omega (arith, z.limited)) (matched z d p (omega arith)) b.twice b.near in
      let y = reach q in
      let covers : h * d ≤ n = omega (arith, from_here z) in
      record { count = h; width = d; candidate = whole_candidate (modest z) i n h d q covers; is_key = e ∙ repeat_key d h p l q covers }

  -- and bound all of them: a repeat that covers more than is solved is one of those offered,
  beyond_now : (h w : ℕ) → Power A (back i t) h w → row.extent < h * w → h * w ≤ n → last ≤ pair_key A P (stretch t i n) h w
  beyond_now h w q far fits =
      let y = reach q in
      let body = drawn_body z.run z.all z.some z.extending z.matches z.drawn h w q in
      let beyond : Beyond row w (get_or same w 0) h =
      record { twice = q.repeats.twice; near = power_near h w (get_or same w 0) (run_back i z.run) (matched z w y.some (omega arith)) q; far = far } in
      omega (arith, ending.repeats w h y.some body (omega (arith, q.repeats.within, z.limited)) beyond, repeat_key w h y.some body q fits)

  -- one that covers no more is, where it is cheapest by itself.
  cover_now : (j c rest h w : ℕ) → i + c ≡ j → c + rest ≡ n → 0 < c → h * w ≡ c → c ≤ row.extent → Least A P usual (best_cost A P) (stretch t i c) h w
      → last ≤ rank usual (best_cost A P (stretch t i c) + best_cost A P (front rest (back j t))) h w
  cover_now j c rest h w u e p f l y =
      let b = its_best c p l in
      let v = least_unique A P usual (best_cost A P) (stretch t i c) b.count b.width h w (fitting (modest z) i c) b.least y in
      let g : covered (get_or keys c 0) ≡ c = best_covers (modest z) i c (get_or keys c 0) b ∙ rw (v.0, v.1) f in
      let is = best_is (modest z) i c h w (get_or keys c 0) b y in
      rw (← u)
      (omega (
        arith,
        ending.cover c p l g,
        tail_is c rest p e,
        first_key (modest z) i (i + c) c rest n h w refl e p f y,
      ))

  keyed : Keyed A P t i n n last
  keyed =
      let x = pair ending.came in
      record {
        count = x.count;
        width = x.width;
        candidate = x.candidate;
        is_key = x.is_key;
        plain = λ j c u v.
            let e : c ≡ n - 1 = omega arith in
            let k = rank_usual (best_cost A P (node i t) + best_cost A P (front c (back j t))) 0 0 in
            rw (e, ← u) (omega (arith, rw (e, ← u) at k, ending.plain, z.own_cost, tail_is 1 (n - 1) (omega arith) (omega arith)));
        whole = λ h w q f l.
            rw (whole_key h w q f) at (beyond_now h w q (omega arith) (omega arith));
        first = λ j c c' h w u e p q f l y w'. elim (dec_le c row.extent) [
          | yes s ↦ cover_now j c c' h w u e p f s y
          | no s ↦
              rw (← u, ← first_price (modest z) i (i + c) c c' n h w refl e p f y)
              (beyond_now h w (whole_power (modest z) i c h w f p y.candidate) (omega arith) (omega arith))
        ];
      }
    where
      whole_key : (h w : ℕ) → Power A (back i t) h w → h * w ≡ n
          → pair_key A P (stretch t i n) h w ≡ rank usual (of_repeat P h + best_cost A P (front w (back i t))) h w
      whole_key h w q f = rw (whole_price (modest z) i n h w q f)

  pub end_best : BestKey A P (stretch t i n) last
  end_best = keyed_best (modest z) i n n last (omega arith) (omega arith) (omega (arith, z.all)) keyed
