-- A normal form may be computed in two parts, the front first.
use Rattle.std.proofs.Common.{◌≡◌, ℕ, List, [], ◌∷◌, ◌++◌, Option, Some, None, sym, ap, ◌∙◌, subst, append_assoc}
use Rattle.std.proofs.Common.{Result, Ok, Err, OnOk}
use Rattle.std.specs.Prelude.{MatchOption}
use Rattle.kb_word.specs.Words.{Pair}
use Rattle.kb_word.specs.Path.{Linked}
use Rattle.kb_word.specs.Rewriting.{FirstRewrite, NormalForm}
use Rattle.kb_rules.proofs.Unique.{normal_form_more}
use Rattle.kb_diff.specs.Groups.{Group}
use Rattle.kb_fsa.specs.Padding.{letters_of}
use Rattle.kb_diff.specs.Tables.{IsFront, FrontLeads, LeadsToNumber, listed}

-- the first rewrite is the same where letters follow
first_rewrite_longer : {rules : List Pair} {u v : List ℕ} → FirstRewrite rules u v → (more : List ℕ) → FirstRewrite rules (u ++ more) (v ++ more)
first_rewrite_longer first more = record {
  before = first.before;
  index = first.index;
  rule = first.rule;
  after = first.after ++ more;
  is_rule = first.is_rule;
  from = ap (λ (w : List ℕ). w ++ more) first.from ∙ append_assoc (first.before ++ first.rule.0) first.after more;
  to = ap (λ (w : List ℕ). w ++ more) first.to ∙ append_assoc (first.before ++ first.rule.1) first.after more;
  shortest = first.shortest;
  first = first.first;
}

linked_then : (rules : List Pair) (u m more e : List ℕ) (steps : List (List ℕ)) → Linked (FirstRewrite rules) u steps m → NormalForm rules (m ++ more) e
    → NormalForm rules (u ++ more) e
linked_then rules u m more e [] same normal =
    let P : List ℕ → Type 0 = λ w. NormalForm rules (w ++ more) e in subst P (sym same) normal
linked_then rules u m more e (next ∷ steps) linked normal =
    normal_form_more (first_rewrite_longer linked.0 more) (linked_then rules next m more e steps linked.1 normal)

-- what is read first may be reduced first
pub normal_form_then : (rules : List Pair) (w m more e : List ℕ) → NormalForm rules w m → NormalForm rules (m ++ more) e → NormalForm rules (w ++ more) e
normal_form_then rules w m more e front whole = linked_then rules w m more e front.path.steps front.path.linked whole

-- the pair of letters leads where the second one leads from the front
pub pair_leads : (group : Group) (words : List (List ℕ)) (d : List ℕ) (a b : ℕ) (front : List ℕ) (target : ℕ) → IsFront group d a front
    → FrontLeads group words front b target → LeadsToNumber group words d a b target
pair_leads group words d a b front target is leads = record {
  word = leads.word;
  leads = record {
    inverse = is.inverse;
    inverts = is.inverts;
    normal = normal_form_then group.rules (is.inverse ++ d) front (letters_of group.n b) leads.word is.normal leads.normal;
  };
  number = leads.number;
}

pub on_ok_more : {X E : Type 0} (P Q : Type 0) (r : Result X E) → (P → Q) → OnOk r P → OnOk r Q
on_ok_more P Q (Ok x) more holds = more holds
on_ok_more P Q (Err e) more holds = tt

-- a letter or none, as a slice
pub listed_slice : (letter : Option ℕ) (slice : List ℕ) → MatchOption letter (slice ≡ []) (λ x. slice ≡ x ∷ []) → slice ≡ listed letter
listed_slice None slice is = is
listed_slice (Some x) slice is = is
