-- `infer::builder::write_signature` meets its contract: the loop keeps that what was written and the types that are left make the function type's text; the result is copied last.
use Rattle.infer.proofs.Signatures.{SigInv}
use Rattle.infer.proofs.builder.write_signature.Given as goal

abbrev pub invariant-loop : goal.invariant-loop
invariant-loop l = SigInv l.left l.v l.count l.k l.initial.out l.out l.at l.to l.counter
