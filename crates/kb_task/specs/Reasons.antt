-- The line that says of a log that it isn't justified.
use Rattle.std.specs.Prelude.{ℕ, List, [], ◌∷◌, ◌++◌, codes, decimal}
use Rattle.kb_io.specs.Bytes.{newline}
use Rattle.kb_proof.specs.declared.verified.Why.{Why}
use Rattle.kb_proof.specs.declared.verified.Why.TheVariants as reasons

-- what a reason is called
abbrev pub reason_name : Why → List ℕ
reason_name reasons.Origin = codes "Origin"
reason_name reasons.Step = codes "Step"
reason_name reasons.Result = codes "Result"
reason_name reasons.Order = codes "Order"
reason_name reasons.Earlier = codes "Earlier"

-- `no log N WHY`
abbrev pub unjustified_line : ℕ → Why → List ℕ
unjustified_line number why =
    codes "no log " ++ (decimal number ++ (codes " " ++ (reason_name why ++ newline ∷ [])))
