-- `solver::row::enter_row` meets its contract. The row is solved whatever tree it was asked for; stored, its stretches have their entries.
use mathlib.Core.Path.{refl}
use native.Mathlib.Omega.{arith}
use Rattle.table.proofs.Tables.{falling_less}
use Rattle.solver.proofs.Putting.{tails_ready}
use Rattle.solver.proofs.Solving.{row_fits, at_low, row_read, match_low, started_rowed, solved_low}
use Rattle.solver.proofs.Entering.{last_low, row_entered}
use Rattle.solver.proofs.row.enter_row.Goals as goal

pub start_row-requires : goal.start_row-requires
start_row-requires c =
    let z = c.requires.row_ready in
    record { row_read = row_read z c.requires.row_held; row_fits = (row_fits z, c.args.rows.now.keys_ready) }

pub mark-requires : goal.mark-requires
mark-requires c = (row_fits c.requires.row_ready, c.start_row.ensures.ready)

pub solve-longest-requires : goal.solve-longest-requires
solve-longest-requires c =
    let z = c.requires.row_ready in
    record {
      row_read = row_read z c.requires.row_held;
      row_fits = (row_fits z, c.start_row.ensures.ready, z.priced.ready, c.mark.ensures, c.args.rows.now.tails_ready);
    }

pub end_key-last-requires : goal.end_key-last-requires
end_key-last-requires c =
    let z = c.requires.row_ready in
    record { row_fits = (row_fits z, z.priced.ready); by_index = match_low z }

pub bounds-rows-at : goal.bounds-rows-at
bounds-rows-at c = at_low c.requires.row_ready

pub bounds-rows-at-2 : goal.bounds-rows-at-2
bounds-rows-at-2 c = at_low c.requires.row_ready

pub store_row-requires : goal.store_row-requires
store_row-requires c =
    let p = c.requires in
    let z = p.row_ready in
    let f = row_fits z in
    let a = c.solve-longest.ensures in
    let rowed = a.rowed z (started_rowed z _ c.start_row.ensures) in
    record {
      falling = (falling_less _ f.within p.row_held.0, falling_less _ f.within p.row_held.1);
      n_in_bounds = omega (arith, f.few, f.within, a.ready.long);
      by_index = λ d l h. solved_low z _ rowed d l h;
    }

pub store_entry-requires : goal.store_entry-requires
store_entry-requires c =
    let p = c.requires in
    let z = p.row_ready in
    let s = c.store_row.ensures in
    let e = c.end_key-last.ensures in
    record {
      falling = (rw s.costs.same_length p.row_held.0, rw s.choices.same_length p.row_held.1);
      i_lt_j = (z.some, last_low c.start_row.ensures c.solve-longest.ensures e.whole e.ending z);
    }

pub invariant_of-rows-2 : goal.invariant_of-rows-2
invariant_of-rows-2 c =
    let z = c.requires.row_ready in
    let a = c.solve-longest.ensures in
    let e = c.end_key-last.ensures in
    let low = last_low c.start_row.ensures a e.whole e.ending z in
    record { tails_ready = tails_ready _ _ (at_low z) (omega arith) c.args.rows.now.tails_ready; keys_ready = a.ready }

pub returns : goal.returns
returns c =
    let p = c.requires in
    let z = p.row_ready in
    let f = row_fits z in
    let s = c.start_row.ensures in
    let a = c.solve-longest.ensures in
    let e = c.end_key-last.ensures in
    let r = c.rest_of.ensures in
    let t = c.store_row.ensures in
    let o = c.store_entry.ensures in
    record {
      kept = (refl, refl);
      entered = row_entered s a e.whole e.ending p.row_held z.some f.within t.costs t.choices o.costs o.choices r.0 refl refl;
    }
