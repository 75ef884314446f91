-- Names strictly ascending, at every depth: what the order theory asks of a type. (Well-formed types have it.)
-- Assumes nothing.
use Rattle.std.specs.Prelude.{ℕ, suc, ◌≤◌}
use Rattle.form.specs.Trees.{Ty, leaf, built, Built, list, range, context, function, Fields, no_fields, field, Tys, no_params, param}

-- `AscFields fs k` also says that the names are at least k
unfoldable mutual
  pub Asc : Ty → Type 0
  Asc (leaf s) = Unit {0}
  Asc (built x) = AscBuilt x

  pub AscBuilt : Built → Type 0
  AscBuilt (list t) = Asc t
  AscBuilt (range t) = Asc t
  AscBuilt (context fs) = AscFields fs 0
  AscBuilt (function ps r) = AscTys ps × Asc r

  pub AscFields : Fields → ℕ → Type 0
  AscFields no_fields k = Unit {0}
  AscFields (field n t fs) k = (k ≤ n) × Asc t × AscFields fs (suc n)

  pub AscTys : Tys → Type 0
  AscTys no_params = Unit {0}
  AscTys (param t ps) = Asc t × AscTys ps
