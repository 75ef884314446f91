-- `retrieval::builder::write_retrieved` meets its contract: either spare place is as long as the value.
-- Assumes nothing.
use Rattle.retrieval.proofs.CallContracts.{value_short}
use Rattle.retrieval.proofs.builder.write_retrieved.Goals as goal

pub retrieve_by-requires-2 : goal.retrieve_by-requires-2
retrieve_by-requires-2 c =
    record {
      accepted = c.requires;
      v_in_bounds = value_short c.args.t.now c.args.v.now c.requires;
    }
