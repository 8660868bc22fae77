-- The steps that fold an accepted run: its filled table, the answer, and the table cleared.
use mathlib.Core.Path.{◌≡◌, refl, sym, ap, subst, ◌∙◌}
use mathlib.Core.Bool.{Bool}
use mathlib.Core.List.{List, [], ◌++◌, append-nil}
use Prim.Native.Nat.{ℕ, ◌+◌, ◌*◌, ◌<◌, ◌≤◌}
use native.Mathlib.Nat.{zero-add}
use native.Mathlib.Decide.{ℕ_discrete}
use native.Mathlib.Omega.{arith}
use lib.ListN.{length, get_or, take, drop, replicate, length-drop}
use Rattle.std.proofs.lemmas.List.{length-take-le}
use borrow.Author.Tests.{lt-ltb, le-ltb}
use lib.Seq.{sets-eq, get_or-drop, ext_get_or}
use Rattle.format.specs.Forest.{Forest, end, Plain, siblings, nodes, cost, form_in, Allowed}
use Rattle.format.specs.Tree.{tree_of}
use Rattle.format.specs.Numbers.{Folded}
use Rattle.optimum.specs.Cheapest.{back, cheapest, best_cost}
use Rattle.optimum.specs.Fewest.{counting, preferred}
use Rattle.optimum.proofs.Cut.{front_whole, siblings_le_nodes}
use Rattle.optimum.proofs.Powers.{spans_usual}
use Rattle.optimum.proofs.Cheapest.{best_cost_end}
use Rattle.optimum.proofs.Fewest.{any_factor, best_counted, counted_few}
use Rattle.table.specs.Used.{to_end, itself, UsedFilled}
use Rattle.format.specs.Limits.{Prices, cells}
use Rattle.table.specs.Keys.{factor}
use Rattle.table.specs.Table.{Entry, Kept, cell, number, stretch}
use Rattle.filling.specs.Filling.{Prepared, LevelReady}
use Rattle.table.specs.Nodes.{NodesListed}
use Rattle.writer.specs.declared.Source.{Source}
use Rattle.writer.specs.Writing.{WriteReady, FoldLength, FoldWritten}
use Rattle.writer.proofs.Spans.{some_siblings, no_nodes}
use Rattle.folder.specs.inner.Run.{RunReady, RunFilled, RunWritten, RunFolded}
use Rattle.optimum.specs.Verdict.{room_answer, room_output}
use Rattle.table.proofs.Digits.{digits}
use Rattle.table.proofs.Cells.{cell_in}
use Rattle.table.proofs.Tables.{number_first, number_last}

-- What lies behind the entries of n nodes stays.
pub kept_tail : (n : ℕ) (xs ys : List ℕ) → Kept 0 n xs ys → drop (cells n) ys ≡ drop (cells n) xs
kept_tail n xs ys k =
    let m = cells n in
    ext_get_or 0 (drop m ys) (drop m xs) (rw (length-drop m ys, length-drop m xs, k.same_length))
    (λ i l.
    rw (get_or-drop m ys i 0, get_or-drop m xs i 0)
    (k.outside (m + i) (λ p q a b c e. let z = cell_in p q n b (omega arith) in omega arith)))

-- The whole sequence as a stretch.
whole_stretch : (t : Forest) → Plain t → stretch t 0 (siblings t) ≡ t
unfolding back
whole_stretch t p = front_whole (siblings t) t p refl

-- The nodes of a source's run are listed.
abbrev pub Listed : Source → Type 0
Listed source = NodesListed source.nodes.now.places source.nodes.now.nexts 0 0 (tree_of source.run.now)

-- What the writer rests on, and the cost of the whole.
module _ (source : Source) {n : ℕ} {A : Allowed} {P : Prices} {costs : List ℕ} (w : RunFilled source.run.now n A P costs source.choices.now) where
  abbrev s : List ℕ
  s = source.run.now

  -- The cheapest fold at prices that count repeats is the preferred one.
  enough : nodes (tree_of s) < 2 * factor
  enough = omega (arith, w.ready.all, w.ready.few)

  same_fold : cheapest A (counting factor P) (tree_of s) ≡ preferred A P (tree_of s)
  same_fold = any_factor A P (tree_of s) (w.ready.spelled.run A) factor enough

  pub write_ready : Listed source → WriteReady source n 0
  write_ready l =
      record {
        tree = tree_of s;
        is_run = w.ready.spelled.run;
        place = 0;
        rest = [];
        stands = rw append-nil (sym w.ready.spelled.form);
        listed = l;
        counted = omega (arith, w.ready.all);
        total = w.ready.few;
        room = w.ready.choice_room;
        allowed = A;
        prices_are = counting factor P;
        costs = costs;
        filled = w.filled;
      }

  -- The entry of the whole run has its cost.
  whole_cost : (c k : ℕ) → Entry A (counting factor P) (tree_of s) c k → c ≡ cost P (preferred A P (tree_of s))
  whole_cost c k x =
      let t = tree_of s in
      let run = w.ready.spelled.run A in
      let g = preferred A P t in
      let few : siblings t ≤ 1024 = omega (arith, siblings_le_nodes t run.plain, w.ready.all, w.ready.few) in
      omega (arith, digits x.best (spans_usual A t few), x.apart, best_counted A P t run factor enough, counted_few A P t run factor enough)

  pub whole_is : (r : ℕ) → (n ≡ 0 → r ≡ 0) → (0 < n → r ≡ get_or costs (cell 0 n) 0) → r ≡ cost P (preferred A P (tree_of s))
  unfolding cost
  whole_is r none some =
      let t = tree_of s in
      let run = w.ready.spelled.run A in
      let m = siblings t in
      elim (ℕ_discrete n 0) [
        | yes e ↦
            let z : t ≡ end = no_nodes t run.plain (w.ready.all ∙ e) in
            let free : best_cost A (counting factor P) t ≡ 0 = rw z (best_cost_end A (counting factor P)) in
            omega (arith, none e, free, best_counted A P t run factor enough)
        | no e ↦
            let more : 0 < m = some_siblings t run.plain (omega (arith, w.ready.all)) in
            let x = w.filled.entry 0 t itself 0 m more (omega arith) (to_end (omega arith)) in
            let first : number 0 t 0 ≡ n = number_first 0 t ∙ (zero-add (nodes t) ∙ w.ready.all) in
            let last : number 0 t (0 + m) ≡ 0 = ap (number 0 t) (zero-add m) ∙ number_last 0 t run.plain in
            some (omega arith) ∙ whole_cost _ _ (rw (first, last, whole_stretch t run.plain) at x)
      ]

  module _ (listed : Listed source) (len : ℕ) (is_length : FoldLength source n 0 len) (out : List ℕ) where
    abbrev f : List ℕ
    f = form_in source.short (preferred A P (tree_of s))

    len_is : len ≡ length f
    unfolding write_ready
    len_is = is_length.is_length (write_ready listed) ∙ rw same_fold

    pub answer_short : length out < len → (r : Folded) → r ≡ record { refusal = 14; place = 0; length = 0; cost = 0 } → (c : ℕ)
        → (r ≡ room_answer (length out) f c) × (out ≡ room_output f out)
    answer_short l r q c =
        let e = lt-ltb (length out) (length f) (omega (arith, len_is)) in
        (q ∙ rw e, rw e)

    pub answer_whole : len ≤ length out → (c : ℕ) → c ≡ cost P (preferred A P (tree_of s)) → (out' : List ℕ) (r : ℕ)
        → FoldWritten source n 0 out out' r
        → (record { refusal = 0; place = 0; length = len; cost = c } ≡ room_answer (length out) f (cost P (preferred A P (tree_of s))))
        × (out' ≡ room_output f out)
    unfolding write_ready
    answer_whole l c is_cost out' r v =
        let e = le-ltb (length out) (length f) (omega (arith, len_is)) in
        let all = sets-eq f out 0 (omega (arith, len_is)) in
        (rw (e, len_is, is_cost), rw e (v.written (write_ready listed) ∙ rw same_fold (rw zero-add at all)))

-- The answer holds for whatever repeats and prices the table was filled.
module _ (source : Source) (listed : Listed source) {n : ℕ} {costs : List ℕ} (len : ℕ) (is_length : FoldLength source n 0 len) (out : List ℕ) where
  pub written_short : length out < len → (r : Folded) → r ≡ record { refusal = 14; place = 0; length = 0; cost = 0 }
      → RunWritten source.short source.run.now n costs source.choices.now out out r
  written_short l r q =
      record {
        answered = λ A P w. (answer_short source w listed len is_length out l r q _).0;
        written = λ A P w. (answer_short source w listed len is_length out l r q 0).1;
      }

  pub written_whole : len ≤ length out → (c : ℕ) → (n ≡ 0 → c ≡ 0) → (0 < n → c ≡ get_or costs (cell 0 n) 0) → (out' : List ℕ) (r : ℕ)
      → FoldWritten source n 0 out out' r
      → RunWritten source.short source.run.now n costs source.choices.now out out' (record { refusal = 0; place = 0; length = len; cost = c })
  written_whole l c none some out' r v =
      record {
        answered = λ A P w. (answer_whole source w listed len is_length out l c (whole_is source w c none some) out' r v).0;
        written = λ A P w. (answer_whole source w listed len is_length out l c (whole_is source w c none some) out' r v).1;
      }

-- What filling the table rests on, and the table that it leaves.
pub level_ready : {s : List ℕ} {n : ℕ} {costs choices : List ℕ} → RunReady s n costs choices → (k : ℕ) {steps groups prices : List ℕ}
    → Prepared steps groups prices → LevelReady s 0 k steps groups prices costs choices
level_ready {s} ready k p =
    record {
      spelled = ready.spelled;
      total = omega (arith, ready.all, ready.few);
      cost_room = rw (zero-add (nodes (tree_of s)), ready.all) ready.cost_room;
      choice_room = rw (zero-add (nodes (tree_of s)), ready.all) ready.choice_room;
      prepared = p;
    }

module _ {s : List ℕ} {n : ℕ} {costs choices costs' choices' : List ℕ} (ready : RunReady s n costs choices)
    (kept : Kept 0 n costs costs' × Kept 0 n choices choices') where
  pub run_filled : {A : Allowed} {Q P : Prices} → Q ≡ P → UsedFilled A (counting factor Q) 0 (tree_of s) costs' choices' → RunFilled s n A P costs' choices'
  run_filled {A} same filled =
      record {
        ready = record {
          spelled = ready.spelled;
          all = ready.all;
          few = ready.few;
          cost_room = rw kept.0.same_length ready.cost_room;
          choice_room = rw kept.1.same_length ready.choice_room;
        };
        filled = subst (λ (R : Prices). UsedFilled A (counting factor R) 0 (tree_of s) costs' choices') same filled;
      }

  -- The table is filled and the fold written; cleared, it leaves all as the folder says.
  module _ {A : Allowed} {P : Prices} (filled : RunFilled s n A P costs' choices') (used : ℕ) (is_used : used ≡ cells n) where
    cleared : {before after front : List ℕ} → Kept 0 n before after → cells n ≤ length after
        → front ≡ replicate (length (take used after)) 0 → front ++ drop used after ≡ replicate (cells n) 0 ++ drop (cells n) before
    cleared {before} {after} k l e = rw (e, is_used, length-take-le (cells n) after l, kept_tail n before after k)

    pub run_folded : {short : Bool} {out out' front front' : List ℕ} {r : Folded} → RunWritten short s n costs' choices' out out' r
        → front ≡ replicate (length (take used costs')) 0 → front' ≡ replicate (length (take used choices')) 0
        → RunFolded short s n A P costs (front ++ drop used costs') choices (front' ++ drop used choices') out out' r
    run_folded w x y =
        record {
          answered = w.answered A P filled;
          written = w.written A P filled;
          costs_cleared = cleared kept.0 filled.ready.cost_room x;
          choices_cleared = cleared kept.1 filled.ready.choice_room y;
        }
