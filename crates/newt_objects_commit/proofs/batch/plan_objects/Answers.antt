use Rattle.std.proofs.Common.{◌≡◌, ◌≢◌, ◌+◌, ◌%◌, ◌<◌, ℕ, Option, IsSome, sym, ◌∙◌, ap, subst, arith}
use Rattle.newt_spec_image.specs.Objects.{Extent}
use Rattle.newt_objects.proofs.Changing.{start_unplanned}
use Rattle.newt_spec_graph.specs.Lists.{Among}
use Rattle.newt_objects_commit.specs.Batch.{bytes_if, all_pages_held, directory_over, directory_puts, new_pages, over_pages}
use Rattle.newt_objects_commit.proofs.Planning.{written, adds-also, adds-as, as-held, as-over}
use Rattle.newt_objects_commit.proofs.batch.plan_objects.Goals as goal

not_zero : (n : ℕ) → n % 2 ≡ 1 → n ≢ 0
not_zero n odd same = absurd (let no : 0 % 2 ≡ 1 = ap (λ (k : ℕ). k % 2) (sym same) ∙ odd in omega (arith, no))

above_zero : (n : ℕ) → 0 < n → n ≢ 0
above_zero n above same = absurd (omega (arith, above, same))

pub plan_directory-requires-clause-no_plan : goal.plan_directory-requires-clause-no_plan
plan_directory-requires-clause-no_plan c = start_unplanned c.args.objects.now 0 c.requires.can.none

pub plan_entry-requires-clause-free : goal.plan_entry-requires-clause-free
plan_entry-requires-clause-free c = λ e is.
    let ids = c.requires.can.ids e is in
    record {
      ids = ids;
      no_plan = c.in_ok-plan_directory.ensures.others e.id (not_zero e.id ids.odd) (start_unplanned c.args.objects.now e.id c.requires.can.none);
      no_plans = λ id among. c.in_ok-plan_directory.ensures.others id (above_zero id (ids.even id among).1) (start_unplanned c.args.objects.now id c.requires.can.none);
    }

pub plan_entry-requires-clause-way : goal.plan_entry-requires-clause-way
plan_entry-requires-clause-way c = let w = c.requires.way in let a = c.in_ok-plan_directory.ensures.way w.0 w.1 w.2 in (w.0, a.0, a.1)

pub plan_gone-requires-clause-there : goal.plan_gone-requires-clause-there
plan_gone-requires-clause-there c = λ id among. subst (λ (o : Option Extent). IsSome o) (sym (c.plan_entry.ensures.held id ∙ c.plan_directory.ensures.held id)) (c.requires.can.there id among)

pub plan_gone-requires-clause-no_plan : goal.plan_gone-requires-clause-no_plan
plan_gone-requires-clause-no_plan c = λ id among.
    c.in_ok-plan_entry.ensures.others id
    (λ e is. (
      λ same. c.requires.can.apart.record_apart e is (subst (λ (n : ℕ). Among c.args.gone.now n) same among),
      λ large. c.requires.can.apart.larges_apart e id is large among,
    ))
    (c.in_ok-plan_directory.ensures.others id (above_zero id (c.requires.can.above id among)) (start_unplanned c.args.objects.now id c.requires.can.none))

pub plan_gone-requires-clause-way : goal.plan_gone-requires-clause-way
plan_gone-requires-clause-way c =
    let w = c.requires.way in
    let a = c.in_ok-plan_directory.ensures.way w.0 w.1 w.2 in
    let b = c.in_ok-plan_entry.ensures.way w.0 a.0 a.1 in
    (w.0, b.0, b.1)

pub returns-clause-way : goal.returns-clause-way
returns-clause-way c = λ live texts w.
    let x = c.in_ok-plan_directory.ensures.way live texts w in
    let y = c.in_ok-plan_entry.ensures.way live x.0 x.1 in
    let z = c.in_ok-plan_gone.ensures.way live y.0 y.1 in (
      z.0,
      z.1,
      written (bytes_if c.args.directory.now) c.args.entry.now c.args.gone.now texts x.0 y.0 z.0 x.2 y.2 z.2
          (λ e is. not_zero e.id (c.requires.can.ids e is).odd) (λ e id is among. above_zero id ((c.requires.can.ids e is).even id among).1) (λ id among. above_zero id (c.requires.can.above id among))
          c.requires.can.apart,
    )

pub returns-clause-pages : goal.returns-clause-pages
returns-clause-pages c =
    let there : all_pages_held c.plan_entry.new.objects c.args.gone.now ≡ all_pages_held c.args.objects.now c.args.gone.now = as-held c.args.objects.now c.plan_entry.new.objects c.args.gone.now (λ id. c.plan_entry.ensures.held id ∙ c.plan_directory.ensures.held id) in
    let over : over_pages c.plan_directory.new.objects c.args.entry.now ≡ over_pages c.args.objects.now c.args.entry.now = as-over c.args.objects.now c.plan_directory.new.objects c.args.entry.now c.plan_directory.ensures.held in
    let first = adds-also _ _ _ _ _ _ _ c.in_ok-plan_directory.ensures.pages c.in_ok-plan_entry.ensures.pages in
    let all = adds-also _ _ _ _ _ _ _ first c.in_ok-plan_gone.ensures.pages in
    adds-as _ _ _ _ _ _ (none (directory_puts (bytes_if c.args.directory.now)) (new_pages c.args.entry.now)) (some (directory_over c.args.objects.now (bytes_if c.args.directory.now)) _ _ _ _ over there) all where
      none : (a b : ℕ) → a + b + 0 ≡ a + b
      none a b = omega arith

      some : (a b c d e : ℕ) → b ≡ c → d ≡ e → a + b + d ≡ a + c + e
      some a b c d e same also = omega (arith, same, also)
