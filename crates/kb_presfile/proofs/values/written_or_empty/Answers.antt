use Rattle.std.proofs.Common.{◌≡◌, ℕ, List, Option, Some, None, option_map}
use Rattle.std.specs.Option.{IfNone}
use Rattle.kb_record.specs.Tree.{Value}
use Rattle.kb_record.specs.View.{written_place}
use Rattle.kb_fields.specs.Fields.{bare_name}
use Rattle.kb_presfile.proofs.values.written_or_empty.Goals as goal

if_none : {X P : Type 0} (found : Option X) → P → IfNone found P
if_none None p = p
if_none (Some x) p = tt

no_name : (p : Option Value) → (p ≡ None → ⊥) → ((n : List ℕ) → p ≡ Some (bare_name n) → ⊥) → (name : Option (List ℕ)) → p ≡ option_map bare_name name → ⊥
no_name p some other None e = some e
no_name p some other (Some n) e = other n e

pub returns-in_err-name-clause-none : goal.returns-in_err-name-clause-none
returns-in_err-name-clause-none c = if_none c.from_residual.result (no_name (written_place c.args.text) c.if-is_empty.ensures c.in_err-name.ensures.none)
