-- What follows from a clause on an outcome.
use Rattle.std.proofs.Common.{Option, None, Some, Result}
use Rattle.std.specs.Option.{IfNone}
use Rattle.std.specs.Result.{IfOk, IfErr}
use Rattle.std.proofs.lemmas.Result.{MatchResult-weaker}

pub IfErr_then : {X Y : Type 0} (r : Result X Y) {P Q : Y → Type 0} → IfErr r P → ((y : Y) → P y → Q y) → IfErr r Q
IfErr_then r p f = MatchResult-weaker r p (λ x t. t) f

pub IfOk_then : {X Y : Type 0} (r : Result X Y) {P Q : X → Type 0} → IfOk r P → ((x : X) → P x → Q x) → IfOk r Q
IfOk_then r p f = MatchResult-weaker r p f (λ y t. t)

pub IfNone_then : {X P Q : Type 0} (r : Option X) → IfNone r P → (P → Q) → IfNone r Q
IfNone_then None p f = f p
IfNone_then (Some x) p f = p
