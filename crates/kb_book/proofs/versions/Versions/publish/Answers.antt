use Rattle.std.proofs.Common.{◌≡◌, ◌-◌, ◌<◌, ℕ, [], ◌∷◌, ◌++◌, ap, ◌∙◌, arith}
use Rattle.std.proofs.lemmas.List.FromFn.{map-range_with_len_more}
use Rattle.kb_book.specs.Lives.{VersionsParts, most, numbers_from}
use Rattle.kb_book.proofs.Lives.{numbers_later}
use Rattle.kb_book.proofs.versions.Versions.publish.Goals as goal

-- where there may be more versions, there are fewer than the most
room : (count : ℕ) (parts : VersionsParts) → most - count ≡ parts.more → 0 < parts.more → count < most
room count parts is some = omega (arith, is, some)

pub overflow_add-self : goal.overflow_add-self
overflow_add-self c =
    let fits = room c.self.inside.count c.args.self.now (ap (λ (v : VersionsParts). v.more) c.self.view_is) c.requires in
    omega (arith, fits)

pub returns-clause-published : goal.returns-clause-published
returns-clause-published c =
    map-range_with_len_more (numbers_from 1 c.self.inside.lives.items) 0 c.self.inside.count c.self.inside.count (omega arith)
    ∙ ap (λ (v : VersionsParts). v.published ++ v.live ∷ []) c.self.view_is

pub returns-clause-live : goal.returns-clause-live
returns-clause-live c =
    numbers_later 1 c.self.inside.lives.items c.self.inside.count (room c.self.inside.count c.args.self.now (ap (λ (v : VersionsParts). v.more) c.self.view_is) c.requires)
    c.self.invariant.1
    ∙ ap (λ (v : VersionsParts). v.live) c.self.view_is
