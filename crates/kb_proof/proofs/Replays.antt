-- Steps by rules, which lead to one word at most.
use Rattle.std.proofs.Common.{◌≡◌, ℕ, List, [], ◌∷◌, ◌++◌, length, sym, ap, ◌∙◌, subst, arith, length-append}
use Rattle.kb_word.specs.Words.{Pair}
use Rattle.kb_machine.specs.Derivations.{Any, Derives, IsStepBy}
use Rattle.kb_machine.specs.declared.line.LogStep.{LogStep}
use Rattle.kb_machine.proofs.Numbers.{numbered_same}
use Rattle.kb_rules.proofs.Lists.{append_cancel_long}

-- a step leads to one word
pub step_same : {rules : List Pair} {u v w : List ℕ} {step : LogStep} → IsStepBy Any rules u step v
    → IsStepBy Any rules u step w
    → v ≡ w
step_same {rules = rules} {step = step} one two =
    let rule : one.rule ≡ two.rule = numbered_same rules step.line one.rule two.rule one.is_rule two.is_rule in
    let left : one.rule.0 ≡ two.rule.0 = ap (λ (pair : Pair). pair.0) rule in
    let right : one.rule.1 ≡ two.rule.1 = ap (λ (pair : Pair). pair.1) rule in
    let front = one.before ++ one.rule.0 in
    let other = two.before ++ two.rule.0 in
    let place : length one.before ≡ length two.before = one.at ∙ sym two.at in
    let long : length front ≡ length other = omega (arith, length-append one.before one.rule.0, length-append two.before two.rule.0, ap length left, place) in
    let parts = append_cancel_long front one.after other two.after (sym one.from ∙ two.from) long in
    let starts = append_cancel_long one.before one.rule.0 two.before two.rule.0 parts.0 place in
    let before : one.before ≡ two.before = starts.0 in
    let after : one.after ≡ two.after = parts.1 in
    let e : one.before ++ one.rule.1 ++ one.after ≡ two.before ++ two.rule.1 ++ two.after = cc (before, right, after) in
    one.to ∙ e ∙ sym two.to

-- so do several
pub derives_same : (rules : List Pair) (steps : List LogStep) (u v w : List ℕ) → Derives Any rules u steps v
    → Derives Any rules u steps w
    → v ≡ w
derives_same rules [] u v w one two = sym one ∙ two
derives_same rules (step ∷ rest) u v w one two =
    let same : one.0 ≡ two.0 = step_same one.1 two.1 in
    let P : List ℕ → Type 0 = λ next. Derives Any rules next rest v in
    derives_same rules rest two.0 v w (subst P same one.2) two.2

-- What is left of the steps leads from the word so far to where all of them lead from the first word.
pub record IsReplayed (rules : List Pair) (from : List ℕ) (steps rest : List LogStep) (word : List ℕ) : Type 0 where
  pub leads : (v : List ℕ) → Derives Any rules word rest v → Derives Any rules from steps v
  pub only : (v : List ℕ) → Derives Any rules from steps v → Derives Any rules word rest v

-- with one step more
pub replayed_more : {rules : List Pair} {from : List ℕ} {steps rest more : List LogStep} {step : LogStep}
    {word next : List ℕ}
    → IsReplayed rules from steps rest word → rest ≡ step ∷ more → IsStepBy Any rules word step next
    → IsReplayed rules from steps more next
replayed_more {rules = rules} {from = from} {steps = steps} {rest = rest} {more = more} {word = word} {next = next} is e taken =
    record {
      leads = λ v led.
          let P : List LogStep → Type 0 = λ list. Derives Any rules word list v in
          is.leads v (subst P (sym e) (next, taken, led));
      only = λ v led.
          let P : List LogStep → Type 0 = λ list. Derives Any rules word list v in
          let all = subst P e (is.only v led) in
          let Q : List ℕ → Type 0 = λ u. Derives Any rules u more v in
          subst Q (step_same all.1 taken) all.2;
    }
