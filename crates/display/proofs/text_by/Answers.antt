-- `display::text_by` meets its contract: the text stands whole in the spare place and is handed on, or a second run over the output says the same.
-- Assumes nothing.
use mathlib.Core.Path.{◌≡◌}
use native.Mathlib.Omega.{arith}
use Rattle.std.proofs.Common.{rules, None, Some, Err}
use Rattle.form.specs.declared.refusals.Refusal.TheVariants.{NoSuchName}
use Rattle.display.proofs.DisplayCall.{type_short, type_ok, call_err, call_handed, call_short, call_again, call_done}
use Rattle.display.proofs.text_by.Goals as goal

pub show-requires : goal.show-requires
show-requires c =
    let A = c.requires in
    let short = type_short c.args.texts.now c.args.t.now A in
    record { t_len_bound = short; ok = type_ok c.args.texts.now c.args.t.now A; room = omega arith }

pub returns-in_err-measured : goal.returns-in_err-measured
returns-in_err-measured c =
    let n : c.show.result ≡ None = search rules in
    let e : c.from_residual.result ≡ Err NoSuchName = search rules in
    rw e (call_err c.args.texts.now c.args.t.now c.requires c.args.out.now _ _ _ c.show.ensures.shows n)

pub returns-then-n-spare : goal.returns-then-n-spare
returns-then-n-spare c =
    let n : c.show.result ≡ Some c.in_ok-measured.measured = search rules in
    call_handed c.args.texts.now c.args.t.now c.requires c.args.out.now _ _ _ c.show.ensures.shows _ n (omega arith) _ _ c.give.ensures

pub returns-then-out-n : goal.returns-then-out-n
returns-then-out-n c =
    let n : c.show.result ≡ Some c.in_ok-measured.measured = search rules in
    call_short c.args.texts.now c.args.t.now c.requires c.args.out.now _ _ _ c.show.ensures.shows _ n c.if-out-n.true

pub show-requires-2 : goal.show-requires-2
show-requires-2 c =
    let A = c.requires in
    let short = type_short c.args.texts.now c.args.t.now A in
    record { t_len_bound = short; ok = type_ok c.args.texts.now c.args.t.now A; room = omega arith }

pub returns-in_err-written : goal.returns-in_err-written
returns-in_err-written c =
    let n : c.show.result ≡ Some c.in_ok-measured.measured = search rules in
    let k : c.show-2.result ≡ None = search rules in
    let e : c.from_residual-in_err-written.result ≡ Err NoSuchName = search rules in
    rw e (call_again c.args.texts.now c.args.t.now c.requires c.args.out.now _ _ _ c.show.ensures.shows _ n c.if-out-n.false _ _ c.show-2.ensures.shows k)

pub returns : goal.returns
returns c =
    let n : c.show.result ≡ Some c.in_ok-measured.measured = search rules in
    let k : c.show-2.result ≡ Some c.in_ok-written.written = search rules in
    call_done c.args.texts.now c.args.t.now c.requires c.args.out.now _ _ _ c.show.ensures.shows _ n c.if-out-n.false _ _ c.show-2.ensures.shows _ k
