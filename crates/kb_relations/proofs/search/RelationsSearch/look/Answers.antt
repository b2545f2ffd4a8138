use Rattle.std.proofs.Common.{◌≡◌, ℕ, Err, IfSome, IfNone, List, Option, get_or, refl, ap, subst}
use Rattle.kb_word.specs.Words.{Pair as Sides}
use Rattle.kb_leastpair.specs.LeastPair.{IsLeastWord}
use Rattle.kb_structure.specs.Axioms.{ActAlike}
use Rattle.kb_structure.specs.StructureOf.{OfAutomata}
use Rattle.kb_relations.specs.Acts.{LeadApart}
use Rattle.kb_relations.proofs.Searching.{goes_on, is_relation, sides_over}
use Rattle.kb_relations.proofs.search.RelationsSearch.look.Goals as goal

pub least_led_apart-requires-clause-left : goal.least_led_apart-requires-clause-left
least_led_apart-requires-clause-left c =
    let it = c.args.self.now in
    let relations = it.relations.now in let place : ℕ = c.args.place in
    let relation : Sides = get_or relations place c.index-self-index.result in
    let is : relation ≡ get_or relations place relation = ap (λ (r : Sides). get_or relations place r) c.index-self-index.is in
    let sides = sides_over relations it.acceptor.now it.multipliers.now it.limit place relation c.requires is it.over in sides.0

pub least_led_apart-requires-clause-right : goal.least_led_apart-requires-clause-right
least_led_apart-requires-clause-right c =
    let it = c.args.self.now in
    let relations = it.relations.now in let place : ℕ = c.args.place in
    let relation : Sides = get_or relations place c.index-self-index.result in
    let is : relation ≡ get_or relations place relation = ap (λ (r : Sides). get_or relations place r) c.index-self-index.is in
    let sides = sides_over relations it.acceptor.now it.multipliers.now it.limit place relation c.requires is it.over in sides.1

pub returns-in-Ok-None-clause-none : goal.returns-in-Ok-None-clause-none
returns-in-Ok-None-clause-none c =
    let it = c.args.self.now in
    let relations = it.relations.now in let place : ℕ = c.args.place in
    let relation : Sides = get_or relations place c.index-self-index.result in
    let is : relation ≡ get_or relations place relation = ap (λ (r : Sides). get_or relations place r) c.index-self-index.is in
    let P : Option (List ℕ) → Type 0 = λ found. IfNone found (OfAutomata it.acceptor.now it.multipliers.now
    (λ structure. ActAlike structure relation.0 relation.1)) in
    goes_on relations it.acceptor.now it.multipliers.now it.limit place relation c.requires is
    (λ followed. subst P c.in-Ok-None.field-0-is (c.in-Ok-None.ensures.none followed)) (c.in-Ok-None.ensures.few refl)

pub returns-in-Ok-Some-clause-found : goal.returns-in-Ok-Some-clause-found
returns-in-Ok-Some-clause-found c =
    let it = c.args.self.now in
    let relations = it.relations.now in let place : ℕ = c.args.place in
    let relation : Sides = get_or relations place c.index-self-index.result in
    let is : relation ≡ get_or relations place relation = ap (λ (r : Sides). get_or relations place r) c.index-self-index.is in
    let P : Option (List ℕ) → Type 0 = λ found. IfSome found (λ word. OfAutomata it.acceptor.now it.multipliers.now
    (λ structure. IsLeastWord (LeadApart structure relation.0 relation.1) word)) in record {
      here = refl;
      relation = relation;
      is_relation = is_relation relations it.acceptor.now it.multipliers.now it.limit place relation c.requires is;
      holds = record {
        few = c.in-Ok-Some.ensures.few refl;
        apart = λ followed. subst P c.in-Ok-Some.field-0-is (c.in-Ok-Some.ensures.found followed);
      };
    }

pub returns-in-Err-TooManyStates-clause-found : goal.returns-in-Err-TooManyStates-clause-found
returns-in-Err-TooManyStates-clause-found c =
    let it = c.args.self.now in
    let relations = it.relations.now in let place : ℕ = c.args.place in
    let relation : Sides = get_or relations place c.index-self-index.result in
    let is : relation ≡ get_or relations place relation = ap (λ (r : Sides). get_or relations place r) c.index-self-index.is in record {
      here = refl;
      relation = relation;
      is_relation = is_relation relations it.acceptor.now it.multipliers.now it.limit place relation c.requires is;
      holds = c.in-Err-TooManyStates.ensures.many c.in-Err-TooManyStates.field-0-0 (ap Err c.in-Err-TooManyStates.field-0-is);
    }
