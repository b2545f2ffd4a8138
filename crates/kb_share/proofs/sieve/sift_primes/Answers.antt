use Rattle.std.proofs.Common.{◌≡◌, ◌+◌, ◌++◌, ◌∷◌, [], List, Vec, Global, get_or, sym, ap, ◌∙◌, subst}
use Rattle.std.proofs.lemmas.List.{get_or_default}
use Rattle.kb_overlap.specs.declared.left_sides.Overlap.{Overlap}
use Rattle.kb_share.specs.declared.found.Apart.{Apart}
use Rattle.kb_share.proofs.Sieving.{SiftedUpTo, nothing_sifted, next_joined, next_apart, all_sifted, is_prime, nothing_found, something_found}
use Rattle.kb_share.proofs.sieve.sift_primes.Goals as goal
use Rattle.kb_share.proofs.sieve.sift_primes.Goals.{in-Some+in_ok-push, in_default}

pub loop-overlap-init : goal.loop-overlap-init
loop-overlap-init g c = nothing_sifted c.args.version.now c.args.from c.args.index c.args.overlaps.now c.clear.new.self.items c.clear.ensures.items

pub sift_late-requires : goal.sift_late-requires
sift_late-requires g c =
    let overlaps = c.args.overlaps.now in
    let next = c.loop-overlap.overlap-index in
    let none : Overlap = record { rule = 0; place = 0 } in
    let at = get_or overlaps next none in
    is_prime c.args.version.now.rules c.args.index overlaps next at c.requires c.loop-overlap-test.true
    (get_or_default overlaps next none at c.loop-overlap-test.true)

pub loop-overlap-preserved : goal.loop-overlap-preserved
loop-overlap-preserved g c =
    let version = c.args.version.now in
    let from = c.args.from in
    let index = c.args.index in
    let overlaps = c.args.overlaps.now in
    let next = c.loop-overlap.overlap-index in
    let none : Overlap = record { rule = 0; place = 0 } in
    let at = get_or overlaps next none in
    let is_at = get_or_default overlaps next none at c.loop-overlap-test.true in
    let before = c.loop-overlap.found.items in
    let Goes : List Apart → Type 0 = λ found. SiftedUpTo version from index overlaps (next + 1) found in
    elim c.match-branch-2.branch [
      | in-Some+in_ok-push w ↦
          let one = w.in-Some.one in
          let it = something_found version from index at c.in_ok-one.field-0 one w.in-Some.is c.in_ok-one.ensures in
          let same : c.match-branch-2.found.items ≡ before ++ one ∷ [] =
          ap (λ (v : Vec Apart Global). v.items) w.found-is ∙ w.in_ok-push.ensures.items in
          let prime = is_prime version.rules index overlaps next at c.requires c.loop-overlap-test.true is_at in
          subst Goes (sym same) (next_apart version from index overlaps next at before one c.loop-overlap-test.true is_at prime it c.loop-overlap.invariant)
      | in_default w ↦
          let joined = nothing_found version from index at c.in_ok-one.field-0 (sym w.in_default.is) c.in_ok-one.ensures in
          let same : c.match-branch-2.found.items ≡ before = ap (λ (v : Vec Apart Global). v.items) w.found-is in
          subst Goes (sym same) (next_joined version from index overlaps next at before c.loop-overlap-test.true is_at joined c.loop-overlap.invariant)
    ]

pub returns : goal.returns
returns g c =
    all_sifted c.args.version.now c.args.from c.args.index c.args.overlaps.now c.loop-overlap.overlap-index c.loop-overlap.found.items c.requires
    c.loop-overlap-test.false c.loop-overlap.invariant
