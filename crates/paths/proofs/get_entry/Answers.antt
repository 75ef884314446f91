-- `paths::get_entry` meets its contract: the place that was found holds the value's bytes, and that part is lent.
-- Assumes nothing.
use Rattle.form.proofs.Whole.{bytes_of}
use Rattle.paths.specs.Calls.{get_entry_call}
use Rattle.paths.proofs.CallContracts.{stand_entry, lend_inside, lent, lent_refused}
use Rattle.paths.proofs.get_entry.Goals as goal

pub returns-in_err-entry_place : goal.returns-in_err-entry_place
returns-in_err-entry_place c =
    let args = c.args in
    lent_refused args.c (get_entry_call args.c.now args.name) _ _ c.from_residual.ensures.1 c.in_err-entry_place.ensures

pub lend-requires : goal.lend-requires
lend-requires c =
    let args = c.args in
    lend_inside args.c.now (get_entry_call args.c.now args.name) _ (stand_entry args.c.now args.name (bytes_of args.c.now c.type_inv.c)) c.in_ok-entry_place.ensures

pub returns : goal.returns
returns c =
    let args = c.args in
    lent args.c (get_entry_call args.c.now args.name) _ _ (stand_entry args.c.now args.name (bytes_of args.c.now c.type_inv.c)) c.in_ok-entry_place.ensures c.lend.ensures
