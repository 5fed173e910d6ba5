-- The resource managers that a system has.
use Rattle.std.proofs.Common.{◌≡◌, ◌<◌, ◌≤◌, ℕ, Bool, true, false, List, get_or, sym, ap, ◌∙◌, subst, arith}
use Rattle.std.specs.Prelude.{Some, slice_get, vec_len}
use Rattle.std.proofs.lemmas.Bool.{lt-ltb, le-ltb}
use Rattle.std.proofs.lemmas.Option.{slice_get_read}
use Rattle.xa_model.specs.Replies.Rules.{has_rm}
use Rattle.xa_model.specs.Trace.{Trace}
use Rattle.xa_system.specs.Parts.{Sees, Stands}
use Rattle.xa_system.specs.declared.parts.Parts.{Parts}
use Rattle.xa_system.specs.declared.site.Site.{Site}

-- a site that was read twice
pub same_up : {R : Type 0} (xs : List (Site R)) (r : ℕ) {x y : Site R} {t : Bool} → slice_get xs r ≡ Some x
    → slice_get xs r ≡ Some y → y.is_up ≡ t → x.is_up ≡ t
same_up xs r {x = x} {y = y} e d u = let one : Some x ≡ Some y = sym e ∙ d in let same : x ≡ y = cc in ap (λ s. s.is_up) same ∙ u

module _ {R L : Type 0} (see : Sees R L) where
  -- the site of a resource manager that is there
  pub rm_read : (tr : Trace) (parts : Parts R L) (r : ℕ) (site : Site R) → Stands see tr parts → r < parts.lines.rms
      → site ≡ get_or parts.sites.items r site → slice_get parts.sites.items r ≡ Some site
  rm_read tr parts r site stands within is =
      let count : vec_len parts.sites ≡ parts.lines.rms = stands.count ∙ sym stands.rms in
      slice_get_read parts.sites.items (vec_len parts.sites) r site parts.sites.ok.0 (omega (arith, within, count)) is

  pub rm_there : (tr : Trace) (parts : Parts R L) (r : ℕ) → Stands see tr parts → r < parts.lines.rms → has_rm tr r ≡ true
  rm_there tr parts r stands within = lt-ltb r _ (subst (λ n. r < n) stands.rms within)

  pub rm_missing : (tr : Trace) (parts : Parts R L) (r : ℕ) → Stands see tr parts → parts.lines.rms ≤ r → has_rm tr r ≡ false
  rm_missing tr parts r stands past = le-ltb r _ (subst (λ n. n ≤ r) stands.rms past)
