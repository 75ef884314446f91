-- `paths::search_deep` meets its contract: the place that was found holds the value's bytes, and that part is lent.
-- Assumes nothing.
use Rattle.form.proofs.Whole.{bytes_of}
use Rattle.paths.specs.Calls.{search_deep_call}
use Rattle.paths.proofs.CallContracts.{stand_deep, lend_inside, lent, lent_refused}
use Rattle.paths.proofs.search_deep.Goals as goal

pub returns-in_err-search_place : goal.returns-in_err-search_place
returns-in_err-search_place c =
    let args = c.args in
    lent_refused args.c (search_deep_call args.c.now args.path.now) _ _ c.from_residual.ensures.1 c.in_err-search_place.ensures

pub lend-requires : goal.lend-requires
lend-requires c =
    let args = c.args in
    lend_inside args.c.now (search_deep_call args.c.now args.path.now) _ (stand_deep args.c.now args.path.now (bytes_of args.c.now c.type_inv.c)) c.in_ok-search_place.ensures

pub returns : goal.returns
returns c =
    let args = c.args in
    lent args.c (search_deep_call args.c.now args.path.now) _ _ (stand_deep args.c.now args.path.now (bytes_of args.c.now c.type_inv.c)) c.in_ok-search_place.ensures c.lend.ensures
