-- `paths::get_first` meets its contract: the place that was found holds the value's bytes, and that part is lent.
-- Assumes nothing.
use Rattle.form.proofs.Whole.{bytes_of}
use Rattle.paths.specs.Calls.{get_first_call}
use Rattle.paths.proofs.CallContracts.{stand_first, lend_inside, lent, lent_refused}
use Rattle.paths.proofs.get_first.Goals as goal

pub returns-in_err-first_place : goal.returns-in_err-first_place
returns-in_err-first_place c =
    let args = c.args in
    lent_refused args.c (get_first_call args.c.now) _ _ c.from_residual.ensures.1 c.in_err-first_place.ensures

pub lend-requires : goal.lend-requires
lend-requires c =
    let args = c.args in
    lend_inside args.c.now (get_first_call args.c.now) _ (stand_first args.c.now (bytes_of args.c.now c.type_inv.c)) c.in_ok-first_place.ensures

pub returns : goal.returns
returns c =
    let args = c.args in
    lent args.c (get_first_call args.c.now) _ _ (stand_first args.c.now (bytes_of args.c.now c.type_inv.c)) c.in_ok-first_place.ensures c.lend.ensures
