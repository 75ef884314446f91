-- A part that a call finds has a place and a length below 65,536: an accepted context is short.
-- Index: `halves_deep`, `halves_entry`, `halves_first` (the calls).
-- Assumes nothing.
use Prim.Native.Nat.{ℕ, ◌+◌, ◌<◌, ◌≤◌}
use native.Mathlib.Omega.{arith}
use mathlib.Core.Path.{◌≡◌, refl, sym, ap, subst, ◌∙◌}
use mathlib.Core.Option.{Option, none, some}
use mathlib.Core.List.{List, [], ◌∷◌}
use lib.ListN.{length}
use Rattle.form.specs.Limits.{name_width, most_bytes}
use Rattle.form.specs.Trees.{Entries}
use Rattle.form.specs.Form.{Bytes}
use Rattle.form.specs.Outcome.{Outcome, done, refused, ◌>>=◌}
use Rattle.paths.specs.Paths.{get_first}
use Rattle.paths.specs.Places.{Spot, spot, Piece, found, extent_of, spot_in, Within}
use Rattle.paths.specs.Calls.{context_of, search_deep_call, get_entry_call, get_first_call}
use Rattle.paths.proofs.CallContracts.{opened_short, entry_call, stand_deep, stand_first, lend_within}
use Rattle.feel.specs.Numbers.{Halves}
use Rattle.form.specs.Options.{map}

-- an accepted context is short, so a part within it has its halves
halves : (c : List ℕ) (k : ℕ) (f : Entries → Option Spot) → Bytes c → Within (extent_of (do es ← context_of c k; done (f es))) c → Halves (extent_of (do es ← context_of c k; done (f es)))
unfolding extent_of ◌>>=◌
halves c k f bs h = go (context_of c k) refl h
  where
    part : (o : Option Spot) → length c ≤ most_bytes → Within (extent_of (done o)) c → Halves (extent_of (done o))
    part none m w = tt
    part (some (spot p v)) m w = (omega arith, omega arith)

    go : (o : Outcome Entries) → context_of c k ≡ o → Within (extent_of (do es ← o; done (f es))) c → Halves (extent_of (do es ← o; done (f es)))
    go (done es) e w = part (f es) (opened_short c k es e bs) w
    go (refused n) e w = tt

-- ---- the calls
pub halves_deep : (c p : List ℕ) (x : Outcome (Option Piece)) → Bytes c → x ≡ extent_of (search_deep_call c p) → Halves x
halves_deep c p x bs e = subst Halves (sym e) (halves c (length p) (spot_in p) bs (lend_within c (search_deep_call c p) (extent_of (search_deep_call c p)) (stand_deep c p bs) refl))

pub halves_entry : (c : List ℕ) (n : ℕ) (x : Outcome (Option Piece)) → Bytes c → x ≡ extent_of (get_entry_call c n) → Halves x
halves_entry c n x bs e = halves_deep c (n ∷ []) x bs (e ∙ ap extent_of (sym (entry_call c n)))

pub halves_first : (c : List ℕ) (x : Outcome (Option Piece)) → Bytes c → x ≡ extent_of (get_first_call c) → Halves x
halves_first c x bs e = subst Halves (sym e) (halves c 0 (λ es. map (spot (3 + name_width)) (get_first es)) bs (lend_within c (get_first_call c) (extent_of (get_first_call c))
    (stand_first c bs) refl))
