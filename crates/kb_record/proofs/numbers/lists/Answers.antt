use Rattle.std.proofs.Common.{◌≡◌, List, [], ◌∷◌, ◌++◌, Option, Some, map, sym, ap, subst, refl, ◌∙◌, arith, rules}
use Rattle.std.proofs.lemmas.Option.{IfSome_then}
use Rattle.kb_record.specs.Tree.{Value}
use Rattle.kb_record.specs.Reading.{remaining, behind}
use Rattle.kb_record.specs.Numbers.{tokens_at, list_place, SpellsList}
use Rattle.kb_record.specs.declared.cursor.Mark.TheVariants.{OpenSquare, CloseSquare, Comma}
use Rattle.kb_record.proofs.PassedMarks.{behind-is}
use Rattle.kb_record.proofs.ReadRows.{map_one_more}
use Rattle.kb_record.proofs.NumberLists.{with_commas, one_place_more, last_place_spelled, list_at, fewer_behind}
use Rattle.kb_record.proofs.numbers.lists.Goals as goal

pub loop-alloc-init : goal.loop-alloc-init
loop-alloc-init g c = (ap (λ xs. with_commas (map (list_place g.T.Item.seen) xs) ++ remaining c.args.tokens.now) (sym c.in_ok-lists.ensures), refl)

pub loop-alloc-preserved : goal.loop-alloc-preserved
loop-alloc-preserved g c =
    let l = c.loop-alloc in
    let xs = c.in-Some.items.items in
    let opened : behind OpenSquare (remaining l.tokens) ≡ Some (remaining c.take.new.self) = grind arith in
    let spelled : SpellsList (map g.T.Item.seen xs) (remaining c.take.new.self) (remaining c.row.new.tokens) = rw c.in-Some.is at c.in_ok-found.ensures.spelled in
    let row = list_at (map g.T.Item.seen xs) (remaining l.tokens) (remaining c.take.new.self) (remaining c.row.new.tokens) (behind-is OpenSquare _ _ opened) spelled in
    let comma : behind Comma (remaining c.row.new.tokens) ≡ Some (remaining c.take-in-loop-alloc.new.self) = grind arith in
    let pushed : c.push.new.self ≡ l.lists ++ xs ∷ [] = search rules in (
      one_place_more (map (list_place g.T.Item.seen) l.lists) (list_place g.T.Item.seen xs) (remaining c.args.tokens.now) (remaining l.tokens) (remaining c.take-in-loop-alloc.new.self) l.invariant.0
          (row ∙ ap (λ ts. tokens_at (list_place g.T.Item.seen xs) ++ ts) (behind-is Comma _ _ comma))
          ∙ ap (λ ps. with_commas ps ++ remaining c.take-in-loop-alloc.new.self) (map_one_more (list_place g.T.Item.seen) l.lists c.push.new.self xs pushed),
      c.take-in-loop-alloc.ensures.whole ∙ c.in_ok-found.ensures.whole ∙ c.take.ensures.whole ∙ l.invariant.1,
    )

pub loop-alloc-smaller : goal.loop-alloc-smaller
loop-alloc-smaller g c =
    let l = c.loop-alloc in
    let xs = c.in-Some.items.items in
    let opened : behind OpenSquare (remaining l.tokens) ≡ Some (remaining c.take.new.self) = grind arith in
    let spelled : SpellsList (map g.T.Item.seen xs) (remaining c.take.new.self) (remaining c.row.new.tokens) = rw c.in-Some.is at c.in_ok-found.ensures.spelled in
    let row = list_at (map g.T.Item.seen xs) (remaining l.tokens) (remaining c.take.new.self) (remaining c.row.new.tokens) (behind-is OpenSquare _ _ opened) spelled in
    let comma : behind Comma (remaining c.row.new.tokens) ≡ Some (remaining c.take-in-loop-alloc.new.self) = grind arith in
    let fewer = fewer_behind (tokens_at (list_place g.T.Item.seen xs)) (remaining l.tokens) (remaining c.row.new.tokens) (remaining c.take-in-loop-alloc.new.self) _ row (behind-is Comma _ _ comma) in
    omega (arith, fewer)

pub returns-then-not-take-2-clause-spelled : goal.returns-then-not-take-2-clause-spelled
returns-then-not-take-2-clause-spelled g c =
    let l = c.loop-alloc in
    let xs = c.in-Some.items.items in
    let opened : behind OpenSquare (remaining l.tokens) ≡ Some (remaining c.take.new.self) = grind arith in
    let spelled : SpellsList (map g.T.Item.seen xs) (remaining c.take.new.self) (remaining c.row.new.tokens) = rw c.in-Some.is at c.in_ok-found.ensures.spelled in
    let row = list_at (map g.T.Item.seen xs) (remaining l.tokens) (remaining c.take.new.self) (remaining c.row.new.tokens) (behind-is OpenSquare _ _ opened) spelled in
    let same : remaining c.take-in-loop-alloc.new.self ≡ remaining c.row.new.tokens = grind arith in
    let pushed : c.push.new.self ≡ l.lists ++ xs ∷ [] = search rules in
    let whole = map_one_more (list_place g.T.Item.seen) l.lists c.push.new.self xs pushed in
    let rest = remaining c.closed.new.tokens in
    let P : List (Option Value) → Type 0 = λ ps. SpellsList ps (remaining c.args.tokens.now) rest in
    IfSome_then c.closed.result c.closed.ensures.spelled (λ list facts.
    subst P (whole ∙ ap (map (list_place g.T.Item.seen)) (sym facts.0))
    (last_place_spelled (map (list_place g.T.Item.seen) l.lists) (list_place g.T.Item.seen xs) (remaining c.args.tokens.now) (remaining l.tokens) rest l.invariant.0
    (row ∙ ap (λ ts. tokens_at (list_place g.T.Item.seen xs) ++ ts) (sym same ∙ behind-is CloseSquare (remaining c.take-in-loop-alloc.new.self) rest facts.1))))

pub returns-then-not-take-clause-whole : goal.returns-then-not-take-clause-whole
returns-then-not-take-clause-whole g c = c.take.ensures.whole ∙ c.loop-alloc.invariant.1

pub returns-in_default-clause-whole : goal.returns-in_default-clause-whole
returns-in_default-clause-whole g c = c.in_ok-found.ensures.whole ∙ c.take.ensures.whole ∙ c.loop-alloc.invariant.1

pub returns-then-not-take-2-clause-whole : goal.returns-then-not-take-2-clause-whole
returns-then-not-take-2-clause-whole g c = c.closed.ensures.whole ∙ c.take-in-loop-alloc.ensures.whole ∙ c.in_ok-found.ensures.whole ∙ c.take.ensures.whole ∙ c.loop-alloc.invariant.1
