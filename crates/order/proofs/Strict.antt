-- Document 02's sentences on K8 hold (specs/Strict.antt). Idea: under the strict reading nothing is ignored, so nothing is reduced; the rest are the sentences over every order.
-- Assumes nothing.
use mathlib.Core.Path.{◌≡◌, refl, ◌∙◌, ap}
use mathlib.Core.Bool.{true, ◌&&◌}
use Rattle.form.specs.Trees.{Ty, built, function, Tys, no_params, param}
use Rattle.order.specs.Order.{up, down, strict_order}
use Rattle.order.specs.Types.{empty, cmp, reduce, sup, sub}
use Rattle.order.specs.Values.{conforms, is_data_by, least}
use Rattle.order.specs.Sentences.{each_pair}
use Rattle.order.specs.Dmn.{dmn_conforms_to, definition_type}
use Rattle.order.specs.Strict.{StrictSentences}
use Rattle.order.proofs.Conform.{reduce_strict}
use Rattle.order.proofs.StrictBounds.{reduced_bound}
use Rattle.order.proofs.Sentences.{sup_functions, sub_functions, sub_pairs, sup_pairs, null_sup, any_sub, counted, any_value, only_any, every_data, every_entry}

plain : (qs : Tys) (r s : Ty) → dmn_conforms_to (built (function no_params r)) (built (function qs s)) ≡ empty qs && dmn_conforms_to r s
unfolding cmp
plain no_params r s = refl
plain (param b qs) r s = refl

nothing_reduced : (t : Ty) → reduce strict_order t ≡ t
nothing_reduced t = reduce_strict strict_order t refl

pub strict_sentences : StrictSentences
unfolding conforms is_data_by least each_pair
strict_sentences = record {
  plain_functions = plain;
  definitions = λ ps b r t. refl;
  plain_supertype = λ r s. sup_functions strict_order no_params no_params r s counted ∙ ap (λ x. built (function x (sup strict_order r s))) (sub_pairs strict_order no_params no_params);
  plain_subtype = λ r s. sub_functions strict_order no_params no_params r s counted ∙ ap (λ x. built (function x (sub strict_order r s))) (sup_pairs strict_order no_params no_params);
  supertype_functions = λ ps qs r s h. sup_functions strict_order ps qs r s h ∙ ap (λ x. built (function x (sup strict_order r s))) (sub_pairs strict_order ps qs);
  subtype_functions = λ ps qs r s h. sub_functions strict_order ps qs r s h ∙ ap (λ x. built (function x (sub strict_order r s))) (sup_pairs strict_order ps qs);
  nothing_reduced = nothing_reduced;
  null_with_lem = λ t. null_sup true t ∙ nothing_reduced t;
  any_with = λ t. any_sub true t ∙ nothing_reduced t;
  supertype_reduced = reduced_bound up;
  subtype_reduced = reduced_bound down;
  data_leaf = λ l. refl;
  data_range = λ i j v w. refl;
  data_list = every_data strict_order;
  data_context = every_entry strict_order;
  definition_is_data = λ ps b r. refl;
  no_built_in = λ n. refl;
  no_type = λ t. refl;
  no_irrelevant = refl;
  least_definition = λ ps b r. nothing_reduced (definition_type ps r);
  other_built_in = λ n. only_any;
  other_type = λ a. only_any;
  other_irrelevant = only_any;
  any_target = any_value true;
}
