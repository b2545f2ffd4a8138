-- Steps of rewriting: what they keep, and a step more at the end.
use Rattle.std.proofs.Common.{◌≡◌, Option, None, IfSome, IsTrue, is_some, ℕ, ◌<◌, ◌^◌, List, [], ◌∷◌, ◌++◌, All, slice_get, Some, refl, sym, subst}
use Rattle.kb_word.specs.Words.{Pair, OneOf}
use Rattle.kb_word.specs.WordOrders.{Below}
use Rattle.kb_word.specs.WordOrderLaws.{word_orders, order_rank, order_rank_falls}
use Rattle.kb_word.specs.declared.word_order.WordOrder.{WordOrder}
use Rattle.kb_word.specs.Rewriting.{IsIrreducible, AreDecreasing, NormalForm}
use Rattle.kb_rules.specs.declared.trace.Step.{Step}
use Rattle.kb_rules.specs.Steps.{IsFirstStep, IsStep, Leads}
use Rattle.kb_rules.proofs.Exists.{first_rewrite_below}
use Rattle.kb_rules.proofs.Unique.{irreducible_is_normal, normal_form_more}

-- the first rewrite of a word is a step
pub first_step_is_step : {rules : List Pair} {u v : List ℕ} {step : Step} → IsFirstStep rules u step v
    → IsStep rules u step v
first_step_is_step {rules = rules} f =
    let P : ℕ → Type 0 = λ index. slice_get rules index ≡ Some f.rewrite.rule in
    record {
      before = f.rewrite.before;
      rule = f.rewrite.rule;
      after = f.rewrite.after;
      is_rule = subst P f.by f.rewrite.is_rule;
      at = f.at;
      from = f.rewrite.from;
      to = f.rewrite.to;
    }

-- steps that are allowed lead the same way where more is allowed
pub leads_implied : {X S : Type 0} {allowed other : X → S → X → Type 0}
    → ((x : X) (step : S) (y : X) → allowed x step y → other x step y)
    → (x : X) (steps : List S) (y : X) → Leads allowed x steps y → Leads other x steps y
leads_implied implied x [] y leads = leads
leads_implied implied x (step ∷ rest) y leads =
    (leads.0, implied x step leads.0 leads.1, leads_implied implied leads.0 rest y leads.2)

-- a step more at the end
pub leads_push : {X S : Type 0} (allowed : X → S → X → Type 0) (x : X) (steps : List S) (y : X) (step : S) (z : X)
    → Leads allowed x steps y → allowed y step z → Leads allowed x (steps ++ step ∷ []) z
leads_push {X = X} allowed x [] y step z same last =
    let P : X → Type 0 = λ from. allowed from step z in (z, subst P (sym same) last, refl)
leads_push allowed x (first ∷ rest) y step z leads last =
    (leads.0, leads.1, leads_push allowed leads.0 rest y step z leads.2 last)

-- the irreducible word to which first rewrites lead is the normal form
pub leads_normal : {rules : List Pair} (u : List ℕ) (steps : List Step) (v : List ℕ)
    → Leads (IsFirstStep rules) u steps v → IsIrreducible (OneOf rules) v → NormalForm rules u v
leads_normal {rules = rules} u [] v same irreducible =
    let P : List ℕ → Type 0 = λ w. NormalForm rules w v in
    subst P (sym same) (irreducible_is_normal rules v irreducible)
leads_normal u (step ∷ rest) v leads irreducible =
    normal_form_more leads.1.rewrite (leads_normal leads.0 rest v leads.2 irreducible)

-- the rank falls with each step
pub step_falls : {rules : List Pair} {u v : List ℕ} {step : Step} (order : WordOrder) → AreDecreasing (Below order) rules
    → IsFirstStep rules u step v → All (λ x. x < 2 ^ 16) u → All (λ x. x < 2 ^ 16) v
    → order_rank order v < order_rank order u
step_falls {rules = rules} {u = u} {v = v} order decreasing f before after =
    order_rank_falls order v u after before (first_rewrite_below (word_orders order) rules decreasing u v f.rewrite)

-- what is found, where something is
pub found : {X : Type 0} {P : X → Type 0} (o : Option X) → IfSome o P → IsTrue (is_some o) → (x : X) × P x
found (Some x) holds some = (x, holds)
found None holds some = absurd (cc some)
