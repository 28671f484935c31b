use Rattle.std.proofs.Common.{◌≡◌, ℕ, List, Some, None, Option, Global, map, string_bytes, sym, ap, ◌∙◌, subst}
use Rattle.newt_host.proofs.Outside.{NoFault-refl}
use Rattle.newt_script_session.proofs.Counting.{never-refl, same-refl}
use Rattle.newt_script_session.specs.Named.{HasNamed}
use Rattle.newt_top.specs.Modes.{LeavesDevices}
use Rattle.newt_top.specs.Status.{StatusFaults}
use Rattle.newt_top.specs.Words.{mode_of, names_of}
use Rattle.newt_top.specs.declared.status.Mode.{Mode}
use Rattle.newt_top.specs.declared.status.Status.TheVariants.{Usage}
use Rattle.newt_top.proofs.Halting.{faults_quiet}
use Rattle.newt_top.proofs.top.run.Goals as goal

pub returns-in-None-clause-faults : goal.returns-in-None-clause-faults
returns-in-None-clause-faults g c =
    let before = g.H.Host.outside c.args.host.now in
    let e : mode_of (map (string_bytes {Z = Global}) c.args.words.now.items) ≡ None =
    ap (λ words. mode_of (map (string_bytes {Z = Global}) words)) (sym c.deref.ensures.value) ∙ (sym c.mode.ensures ∙ c.in-None.is) in
    subst (λ (mode : Option Mode). StatusFaults mode Usage before before) (sym e) (faults_quiet None before before Usage tt (NoFault-refl before) (never-refl before))

pub returns-in-Some-clause-faults : goal.returns-in-Some-clause-faults
returns-in-Some-clause-faults g c =
    let e : mode_of (map (string_bytes {Z = Global}) c.args.words.now.items) ≡ Some c.in-Some.mode =
    ap (λ words. mode_of (map (string_bytes {Z = Global}) words)) (sym c.deref.ensures.value) ∙ (sym c.mode.ensures ∙ c.in-Some.is) in
    subst (λ (mode : Option Mode). StatusFaults mode c.run_mode.result (g.H.Host.outside c.args.host.now) (g.H.Host.outside c.run_mode.new.host)) (sym e) c.run_mode.ensures.ends.faults

pub returns-in-None-clause-devices : goal.returns-in-None-clause-devices
returns-in-None-clause-devices g c =
    let before = g.H.Host.outside c.args.host.now in
    let e : mode_of (map (string_bytes {Z = Global}) c.args.words.now.items) ≡ None =
    ap (λ words. mode_of (map (string_bytes {Z = Global}) words)) (sym c.deref.ensures.value) ∙ (sym c.mode.ensures ∙ c.in-None.is) in
    subst (λ (mode : Option Mode). LeavesDevices g.H.Host.told mode before before) (sym e) (same-refl g.H.Host.told before)

pub returns-in-Some-clause-devices : goal.returns-in-Some-clause-devices
returns-in-Some-clause-devices g c =
    let e : mode_of (map (string_bytes {Z = Global}) c.args.words.now.items) ≡ Some c.in-Some.mode =
    ap (λ words. mode_of (map (string_bytes {Z = Global}) words)) (sym c.deref.ensures.value) ∙ (sym c.mode.ensures ∙ c.in-Some.is) in
    subst (λ (mode : Option Mode). LeavesDevices g.H.Host.told mode (g.H.Host.outside c.args.host.now) (g.H.Host.outside c.run_mode.new.host)) (sym e) c.run_mode.ensures.devices

pub returns-in-None-clause-named : goal.returns-in-None-clause-named
returns-in-None-clause-named g c unit name is = let none = c.requires unit in absurd (cc)

pub returns-in-Some-clause-named : goal.returns-in-Some-clause-named
returns-in-Some-clause-named g c =
    let n : names_of (map (string_bytes {Z = Global}) c.args.words.now.items) ≡ map (string_bytes {Z = Global}) c.names.result.now =
    ap (λ words. names_of (map (string_bytes {Z = Global}) words)) (sym c.deref-in-Some.ensures.value) ∙ sym c.names.ensures in
    subst (λ (names : List (List ℕ)). HasNamed names (g.H.Host.outside c.run_mode.new.host)) (sym n) c.run_mode.ensures.named
