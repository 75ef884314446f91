-- What `ContextUpdates` states of updates holds (`context_updates`): the laws on trees, gathered.
-- Assumes nothing.
use Rattle.updates.specs.Laws.{ContextUpdates}
use Rattle.updates.proofs.Theorems.{created_found, created_other, created_inside, created_way, apply_create, apply_refuses, refuses_apply, set_create, null_create}
use Rattle.updates.proofs.Theorems.{move_absent, move_nests, move_found, move_gone, move_other, move_parent, move_replaced, move_inside, move_below, removed_gone, removed_other}
use Rattle.updates.proofs.MergedContexts.{zip_name, overwrite_name}
use Rattle.updates.proofs.Formed.{well_updated, well_joined, well_removed, level_removed}
use Rattle.updates.proofs.Levels.{level_updated, updated_level_is, updated_deep, level_merged, size_merged}
use Rattle.updates.proofs.Splices.{spliced_is, blocked_is}

pub context_updates : ContextUpdates
context_updates =
    record {
      created_found = created_found;
      created_other = created_other;
      created_inside = created_inside;
      created_way = created_way;
      apply_create = apply_create;
      apply_refuses = apply_refuses;
      refuses_apply = refuses_apply;
      set_create = set_create;
      null_create = null_create;
      move_absent = move_absent;
      move_nests = move_nests;
      move_found = move_found;
      move_gone = move_gone;
      move_other = move_other;
      move_parent = move_parent;
      move_replaced = move_replaced;
      move_inside = move_inside;
      move_below = move_below;
      removed_gone = removed_gone;
      removed_other = removed_other;
      zip_name = zip_name;
      overwrite_name = overwrite_name;
      created_well = well_updated;
      merged_well = well_joined;
      removed_well = well_removed;
      updated_level = level_updated;
      updated_level_is = updated_level_is;
      updated_deep = updated_deep;
      merged_level = level_merged;
      removed_level = level_removed;
      created_bytes = spliced_is;
      apply_blocked = blocked_is;
      merged_short = size_merged;
    }
