-- What a picture says of its run.
use Rattle.std.specs.Prelude.{◌≡◌, ℕ, nat_lt, if◌then◌else◌, List, ◌++◌, codes}
use Rattle.std.specs.Fmt.{decimal}
use Rattle.xa_story.specs.declared.party.Party.{Party}
use Rattle.xa_story.specs.declared.party.Party.TheVariants.{Thread, Manager, Rm}

-- where a part is drawn: what the system doesn't have at the manager, which refuses it
abbrev pub shown_party : (threads rms : ℕ) → Party → Party
shown_party threads rms (Thread thread) = if nat_lt thread threads then Thread thread else Manager
shown_party threads rms (Rm rm) = if nat_lt rm rms then Rm rm else Manager
shown_party threads rms Manager = Manager

-- the title: how large the run is
abbrev pub title_text : (threads rms events : ℕ) → List ℕ
title_text threads rms events =
    codes "Sequence diagram of a run: threads " ++ decimal threads ++ codes ", resource managers " ++ decimal rms
    ++ codes ", events " ++ decimal events

-- a picture has this title
pub record HasTitle (title picture : List ℕ) : Type 0 where
  pub before : List ℕ
  pub after : List ℕ
  pub is : picture ≡ before ++ title ++ after

-- a picture is one of a run of this size
abbrev pub IsPicture : (threads rms events : ℕ) → List ℕ → Type 0
IsPicture threads rms events picture = HasTitle (title_text threads rms events) picture
