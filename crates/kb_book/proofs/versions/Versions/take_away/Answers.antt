use Rattle.std.proofs.Common.{◌≡◌, ◌+◌, ◌-◌, ◌≤◌, ◌<◌, ℕ, List, length, get_or, slice_get, slice_set, Some, true, sym, ap, ◌∙◌, subst, arith}
use Rattle.std.specs.List.{Contains, remove}
use Rattle.std.proofs.lemmas.List.{get_or_default}
use Rattle.kb_book.specs.declared.versions.Life.{Life}
use Rattle.kb_book.specs.Lives.{VersionsParts, is_in, numbers_from}
use Rattle.kb_book.proofs.Lists.{contained}
use Rattle.kb_book.proofs.Lives.{listed, numbers_kept, numbers_less, published_kept, goes_now, is_gone}
use Rattle.kb_book.proofs.versions.Versions.take_away.Goals as goal

-- a live line, by its number
record IsLiveLife (lives : List Life) (count k : ℕ) : Type 0 where
  positive : 0 < k
  within : k ≤ length lives
  has : (d : Life) → is_in (get_or lives (k - 1) d) count ≡ true

live_life : (versions : VersionsParts) (lives : List Life) (count k : ℕ) → numbers_from 1 lives count ≡ versions.live
    → Contains versions.live k → IsLiveLife lives count k
live_life versions lives count k is contains =
    let P : List ℕ → Type 0 = λ l. Contains l k in
    let own = subst P (sym is) contains in
    let one = listed 1 lives count own.0 k (contained (numbers_from 1 lives count) k own) in
    let index : k - 1 ≡ one.index = omega (arith, one.number) in
    record {
      positive = omega (arith, one.number);
      within = omega (arith, one.number, one.within);
      has = λ d. ap (λ (i : ℕ). is_in (get_or lives i d) count) index ∙ one.has d;
    }

-- what stands at an index, whatever it is otherwise
get_or_other : (lives : List Life) (index : ℕ) (old d : Life) → old ≡ get_or lives index old → index < length lives → old ≡ get_or lives index d
get_or_other lives index old d is within = is ∙ get_or_default lives index old d within

pub overflow_sub-place : goal.overflow_sub-place
overflow_sub-place c =
    let lives = c.self.inside.lives.items in
    let count = c.self.inside.count in
    (live_life c.args.self.now lives count c.args.k (ap (λ (v : VersionsParts). v.live) c.self.view_is) c.requires).positive

pub index-requires : goal.index-requires
index-requires c =
    let lives = c.self.inside.lives.items in
    let count = c.self.inside.count in
    let one = live_life c.args.self.now lives count c.args.k (ap (λ (v : VersionsParts). v.live) c.self.view_is) c.requires in
    omega (arith, one.positive, one.within, c.self.inside.lives.ok.0)

pub index_mut-requires : goal.index_mut-requires
index_mut-requires c =
    let lives = c.self.inside.lives.items in
    let count = c.self.inside.count in
    let one = live_life c.args.self.now lives count c.args.k (ap (λ (v : VersionsParts). v.live) c.self.view_is) c.requires in
    omega (arith, one.positive, one.within, c.self.inside.lives.ok.0)

pub returns-clause-published : goal.returns-clause-published
returns-clause-published c =
    let lives = c.self.inside.lives.items in
    let count = c.self.inside.count in
    let index = c.args.k - 1 in
    let old = c.index.result.now in
    let life : Life = record { born = old.born; gone = count } in
    let one = live_life c.args.self.now lives count c.args.k (ap (λ (v : VersionsParts). v.live) c.self.view_is) c.requires in
    let within : index < length lives = omega (arith, one.positive, one.within) in
    let here = get_or lives index life in
    published_kept (numbers_from 1 (slice_set lives index life)) (numbers_from 1 lives) count (λ place earlier.
    numbers_kept 1 lives index life place (goes_now count old.born here place (c.self.invariant.1 index life within)
    (one.has life) (ap (λ (l : Life). l.born) (get_or_other lives index old life c.index.ensures within)) earlier))
    ∙ ap (λ (v : VersionsParts). v.published) c.self.view_is

pub returns-clause-live : goal.returns-clause-live
returns-clause-live c = λ place at.
    let lives = c.self.inside.lives.items in
    let count = c.self.inside.count in
    let index = c.args.k - 1 in
    let life : Life = record { born = c.index.result.now.born; gone = count } in
    let one = live_life c.args.self.now lives count c.args.k (ap (λ (v : VersionsParts). v.live) c.self.view_is) c.requires in
    let same : c.args.k ≡ 1 + index = omega (arith, one.positive) in
    let there : slice_get (numbers_from 1 lives count) place ≡ Some (1 + index) =
    ap (λ (v : VersionsParts). slice_get v.live place) c.self.view_is ∙ at ∙ ap (λ (n : ℕ). Some n) same in
    numbers_less 1 lives index life count place (is_gone count c.index.result.now.born) there
    ∙ ap (λ (v : VersionsParts). remove v.live place) c.self.view_is
