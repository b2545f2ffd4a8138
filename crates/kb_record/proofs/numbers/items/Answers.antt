use Rattle.std.proofs.Common.{◌≡◌, List, [], ◌∷◌, ◌++◌, Option, Some, map, sym, ap, subst, refl, ◌∙◌, arith, rules}
use Rattle.std.proofs.lemmas.Option.{IfSome_then}
use Rattle.kb_record.specs.Tree.{Value}
use Rattle.kb_record.specs.Reading.{remaining, behind}
use Rattle.kb_record.specs.Numbers.{tokens_at, SpellsList}
use Rattle.kb_record.specs.declared.cursor.Mark.TheVariants.{CloseSquare, Comma}
use Rattle.kb_record.proofs.PassedMarks.{behind-is}
use Rattle.kb_record.proofs.ReadRows.{map_one_more}
use Rattle.kb_record.proofs.NumberLists.{with_commas, one_place_more, last_place_spelled, fewer_behind}
use Rattle.kb_record.proofs.numbers.items.Goals as goal

pub loop-item-init : goal.loop-item-init
loop-item-init g c =
    let none : c.new-items.result.items ≡ [] = search rules in
    (ap (λ xs. with_commas (map g.T.Item.seen xs) ++ remaining c.args.tokens.now) (sym none), refl)

pub loop-item-preserved : goal.loop-item-preserved
loop-item-preserved g c =
    let l = c.loop-item in
    let x = c.in-Some.item in
    let item : remaining l.tokens ≡ tokens_at (g.T.Item.seen x) ++ remaining c.pass.new.tokens = c.in-Some.ensures.spelled in
    let comma : behind Comma (remaining c.pass.new.tokens) ≡ Some (remaining c.take.new.self) = grind arith in
    let pushed : c.push.new.self.items ≡ l.items.items ++ x ∷ [] = search rules in (
      one_place_more (map g.T.Item.seen l.items.items) (g.T.Item.seen x) (remaining c.args.tokens.now) (remaining l.tokens) (remaining c.take.new.self) l.invariant.0
          (item ∙ ap (λ ts. tokens_at (g.T.Item.seen x) ++ ts) (behind-is Comma _ _ comma))
          ∙ ap (λ ps. with_commas ps ++ remaining c.take.new.self) (map_one_more g.T.Item.seen l.items.items c.push.new.self.items x pushed),
      c.take.ensures.whole ∙ c.pass.ensures.whole ∙ l.invariant.1,
    )

pub loop-item-smaller : goal.loop-item-smaller
loop-item-smaller g c =
    let l = c.loop-item in
    let x = c.in-Some.item in
    let item : remaining l.tokens ≡ tokens_at (g.T.Item.seen x) ++ remaining c.pass.new.tokens = c.in-Some.ensures.spelled in
    let comma : behind Comma (remaining c.pass.new.tokens) ≡ Some (remaining c.take.new.self) = grind arith in
    let fewer = fewer_behind (tokens_at (g.T.Item.seen x)) (remaining l.tokens) (remaining c.pass.new.tokens) (remaining c.take.new.self) _ item (behind-is Comma _ _ comma) in
    omega (arith, fewer)

pub returns-then-not-take-clause-spelled : goal.returns-then-not-take-clause-spelled
returns-then-not-take-clause-spelled g c =
    let l = c.loop-item in
    let x = c.in-Some.item in
    let item : remaining l.tokens ≡ tokens_at (g.T.Item.seen x) ++ remaining c.pass.new.tokens = c.in-Some.ensures.spelled in
    let same : remaining c.take.new.self ≡ remaining c.pass.new.tokens = grind arith in
    let pushed : c.push.new.self.items ≡ l.items.items ++ x ∷ [] = search rules in
    let whole = map_one_more g.T.Item.seen l.items.items c.push.new.self.items x pushed in
    let rest = remaining c.closed.new.tokens in
    let P : List (Option Value) → Type 0 = λ ps. SpellsList ps (remaining c.args.tokens.now) rest in
    IfSome_then c.closed.result c.closed.ensures.spelled (λ list facts.
    subst P (whole ∙ ap (λ v. map g.T.Item.seen v.items) (sym facts.0))
    (last_place_spelled (map g.T.Item.seen l.items.items) (g.T.Item.seen x) (remaining c.args.tokens.now) (remaining l.tokens) rest l.invariant.0
    (item ∙ ap (λ ts. tokens_at (g.T.Item.seen x) ++ ts) (sym same ∙ behind-is CloseSquare (remaining c.take.new.self) rest facts.1))))

pub returns-in_default-clause-whole : goal.returns-in_default-clause-whole
returns-in_default-clause-whole g c = c.pass.ensures.whole ∙ c.loop-item.invariant.1

pub returns-then-not-take-clause-whole : goal.returns-then-not-take-clause-whole
returns-then-not-take-clause-whole g c = c.closed.ensures.whole ∙ c.take.ensures.whole ∙ c.pass.ensures.whole ∙ c.loop-item.invariant.1
