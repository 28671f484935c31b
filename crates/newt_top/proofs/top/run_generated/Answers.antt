use Rattle.std.proofs.Common.{◌≡◌, inr, ℕ, List, Err, map, Global, string_bytes, refl, subst, arith}
use Rattle.std.proofs.lemmas.Grind.{common_steps}
use Rattle.newt_host.proofs.Histories.{untouched-attached}
use Rattle.newt_script_session.specs.declared.halt.Halt.TheVariants as halts
use Rattle.newt_script_session.proofs.Counting.{never-refl, none-refl}
use Rattle.newt_spec_script.specs.Generator.{gen_script}
use Rattle.newt_top.specs.Modes.{RanCounted}
use Rattle.newt_top.proofs.Halting.{counted_nothing, ends_quiet}
use Rattle.newt_top.specs.declared.status.Status.TheVariants.{Memory}
use Rattle.newt_top.proofs.top.run_generated.Goals as goal

-- ---- out of memory for the script: nothing was attached

pub returns-in_default-clause-ran : goal.returns-in_default-clause-ran
returns-in_default-clause-ran g c = λ told.
    let before = g.H.Host.outside c.args.host.now in
    record {
      result = Err halts.Memory;
      ends = refl;
      attached = inr (refl, refl);
      ran = counted_nothing (gen_script c.args.seed c.args.count) (map (string_bytes {Z = Global}) c.args.names.now) before
          (λ unit. untouched-attached unit before.now (g.met.H.Host.untouched c.args.host.now unit told (c.requires.may.free unit)));
    }

pub returns-in_default-clause-ends : goal.returns-in_default-clause-ends
returns-in_default-clause-ends g c = ends_quiet _ _ _ Memory (none-refl _) tt (λ same. absurd (cc)) (never-refl _)

-- ---- the script

pub returns-clause-ran : goal.returns-clause-ran
returns-clause-ran g c = λ told.
    let names = map (string_bytes {Z = Global}) c.args.names.now in
    let script_is : c.deref.result.now ≡ gen_script c.args.seed c.args.count = grind (arith, common_steps) in
    let P : List ℕ → Type 0 = λ script. RanCounted script names c.run_counted.result (g.H.Host.outside c.args.host.now) (g.H.Host.outside c.run_counted.new.host) in
    subst P script_is (c.run_counted.ensures.ran told)

pub returns-clause-ends : goal.returns-clause-ends
returns-clause-ends g c = c.run_counted.ensures.ends c.args.seed c.args.count

-- ---- what is attached

pub returns-in_default-clause-named : goal.returns-in_default-clause-named
returns-in_default-clause-named g c unit name is = let none = c.requires.may.free unit in absurd (cc)
