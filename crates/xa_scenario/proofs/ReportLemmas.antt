-- The branches that were started, and what became of them.
use Rattle.std.proofs.Common.{◌≡◌, ◌∙◌, ◌<◌, ℕ, arith, List, [], ◌∷◌, ◌++◌, map, length, get_or, true, ap, refl, sym}
use Rattle.std.specs.Prelude.{◌↔◌, Contains}
use Rattle.std.specs.List.Sorted.{IsStrictlySortedBy}
use Rattle.std.specs.Map.{keys_of}
use Rattle.std.proofs.lemmas.List.{get_or-map, length-map, map_push}
use Rattle.std.proofs.lemmas.List.Elements.{All-nil, All-push, Contains-get_or}
use Rattle.xa_base.specs.Branch.{xid_of_branch}
use Rattle.xa_base.specs.Xid.{Xid, xid_cmp}
use Rattle.xa_base.specs.declared.branch.Branch.{Branch}
use Rattle.xa_base.specs.declared.reply.Event.{Event}
use Rattle.xa_base.specs.declared.state.Fate.{Fate}
use Rattle.xa_base.specs.declared.state.Fate.TheVariants.{Unstarted}
use Rattle.xa_model.specs.Facts.{fate, started}
use Rattle.xa_model.specs.Trace.{Origin, Trace}
use Rattle.xa_files.specs.Fates.{fate_lines}
use Rattle.xa_scenario.specs.Processes.{AddsFates, AddsStarted, AreFates, IsFateOf}
use Rattle.xa_scenario.specs.Runs.{IsReportOf}
use Rattle.xa_system.specs.Report.{IsReported}

abbrev first_of : Xid × Fate → Xid
first_of line = line.0

module _ (tr : Trace) (list : List (Xid × Fate)) (listed : (x : Xid) (f : Fate) → Contains list (x, f) ↔ IsReported tr x f) where
  names_one : (x : Xid) → Contains (map first_of list) x → (b : Branch) × (started tr b ≡ true) × (x ≡ xid_of_branch b)
  names_one x (k, within, is) =
      let low : k < length list = omega (arith, within, length-map list first_of) in
      let line = get_or list k (x, Unstarted) in
      let reported = (listed line.0 line.1).0 (Contains-get_or list k (x, Unstarted) low) in
      (reported.branch, reported.is_started, sym is ∙ get_or-map first_of list k (x, Unstarted) x low ∙ reported.names)

  is_named : (x : Xid) → (b : Branch) × (started tr b ≡ true) × (x ≡ xid_of_branch b) → Contains (map first_of list) x
  is_named x (b, begun, is) =
      let it = (listed x (fate tr b)).1 (record { branch = b; is_started = begun; names = is; ends = refl }) in
      (it.0, omega (arith, it.1, length-map list first_of), get_or-map first_of list it.0 (x, fate tr b) x it.1 ∙ ap first_of it.2)

  -- the names of a report
  pub adds_report : (old new : List Xid) → IsStrictlySortedBy xid_cmp (keys_of list) → new ≡ old ++ map first_of list → AddsStarted tr old new
  adds_report old new sorted is = record {
    own = map first_of list;
    started = record { in_order = sorted; listed = λ x. (names_one x, is_named x) };
    adds = is;
  }

-- one fate more
pub no_fates : (o : Origin) (events : List Event) → AreFates o events [] []
no_fates o events = record { listed = refl; each = All-nil (IsFateOf o events) }

pub one_fate_more : (o : Origin) (events : List Event) (names : List Xid) (fates : List (Xid × Fate)) (x : Xid) (f : Fate) → AreFates o events names fates
    → IsFateOf o events (x, f) → AreFates o events (names ++ x ∷ []) (fates ++ (x, f) ∷ [])
one_fate_more o events names fates x f so_far one = record {
  listed = map_push first_of fates (x, f) ∙ ap (λ ns. ns ++ x ∷ []) so_far.listed;
  each = All-push (IsFateOf o events) fates (x, f) so_far.each one;
}

-- the texts of both
pub adds_fates : (o : Origin) (events : List Event) (names : List Xid) (text mid whole : List ℕ) (earlier told own reported : List (Xid × Fate))
    → AreFates o events names earlier → IsReportOf o events own → told ≡ earlier → reported ≡ own
    → mid ≡ text ++ fate_lines told → whole ≡ mid ++ fate_lines reported → AddsFates o events names text whole
adds_fates o events names text mid whole earlier told own reported fates report same_earlier same_own first second = record {
  earlier = earlier;
  own = own;
  told = fates;
  report = report;
  spelled = second ∙ ap (λ t. t ++ fate_lines reported) (first ∙ ap (λ lines. text ++ fate_lines lines) same_earlier)
      ∙ ap (λ lines. text ++ fate_lines earlier ++ fate_lines lines) same_own;
}
