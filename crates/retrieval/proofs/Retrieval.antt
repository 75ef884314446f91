-- What `Retrieval` states holds (`retrieval`): the laws of Theorems and ByNames, gathered.
-- Assumes nothing.
use Rattle.form.specs.Trees.{built, context}
use Rattle.form.specs.Form.{WfV}
use Rattle.order.specs.Ascending.{Asc}
use Rattle.order.proofs.WellFormed.{asc_of}
use Rattle.retrieval.specs.Retrieval.{Retrieval}
use Rattle.retrieval.proofs.Theorems.{less_val, there}
use Rattle.retrieval.proofs.ByNames.{by_names, entries_by}

pub retrieval : Retrieval
unfolding WfV Asc
retrieval =
    record {
      by_names = λ v t w x. by_names v t w (asc_of t x);
      same_entries = λ es fs w x. entries_by es 0 fs w.1 (asc_of (built (context fs)) x);
      behind_conformance = λ v t w x h. there v t w (asc_of t x) h;
      never_longer = λ v t w e. (less_val v t w e).shorter;
      never_deeper = λ v t w e. (less_val v t w e).lower;
      well_formed = λ v t w e. (less_val v t w e).well;
    }
