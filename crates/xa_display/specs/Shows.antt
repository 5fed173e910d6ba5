-- What is shown of a run of a scenario file.
use Rattle.std.specs.Prelude.{◌≡◌, ◌≤◌, ◌<◌, ◌⊎◌, ℕ, List, length, Option, Result, Ok, IsErrAnd, IsOk}
use Rattle.std.specs.Io.KnownBytes.{Appends}
use Rattle.xa_base.specs.Xid.{Xid}
use Rattle.xa_base.specs.declared.reply.Event.{Event}
use Rattle.xa_base.specs.declared.state.Fate.{Fate}
use Rattle.xa_chart.specs.Pictures.{IsPicture}
use Rattle.xa_display.specs.declared.picture.ChartFault.{ChartFault}
use Rattle.xa_display.specs.declared.picture.ChartFault.TheVariants.{Run, TooLong}
use Rattle.xa_files.specs.Reading.{SaysOfReading}
use Rattle.xa_files.specs.declared.fault.RunFault.{RunFault}
use Rattle.xa_files.specs.declared.fault.RunFault.TheVariants.{Memory}
use Rattle.xa_log.specs.Contract.{Moment}
use Rattle.xa_model.specs.Trace.{Origin}
use Rattle.xa_scenario_file.specs.Files.{names_of}
use Rattle.xa_scenario.specs.Runs.{IsReportOf, IsRunOf, StartsOverLog}
use Rattle.xa_scenario_file.specs.Scenarios.{Plan, scenario_of}
use Rattle.xa_story.specs.Stories.{IsStory}

-- the most events of a picture
abbrev pub most_drawn_events : ℕ
most_drawn_events = 200

module _ {L : Type 0} (moment : L → Moment) (log : L) (text : List ℕ) where
  -- these events are a run of the scenario in the text, over this log
  pub record IsRunOfText (plan : Plan) (o : Origin) (events : List Event) : Type 0 where
    pub reads : scenario_of text ≡ Ok plan
    pub over : StartsOverLog moment log o
    pub run : IsRunOf plan o events

  -- a text is the story of a run, with the fates of its report
  pub record IsStoryOfRun (story : List ℕ) : Type 0 where
    pub plan : Plan
    pub origin : Origin
    pub events : List Event
    pub names : List (List ℕ)
    pub fates : List (Xid × Fate)
    pub run : IsRunOfText plan origin events
    pub named : names_of text ≡ Ok names
    pub report : IsReportOf origin events fates
    pub told : IsStory names events fates story

  -- what was written is the story of a run
  pub record TellsRun (old new : Option (List ℕ)) : Type 0 where
    pub story : List ℕ
    pub of_run : IsStoryOfRun story
    pub writes : Appends old new story

  -- a text is a picture of a run, as large as it
  pub record IsPictureOfRun (picture : List ℕ) : Type 0 where
    pub plan : Plan
    pub origin : Origin
    pub events : List Event
    pub run : IsRunOfText plan origin events
    pub few : length events ≤ most_drawn_events
    pub drawn : IsPicture plan.threads plan.rms (length events) picture

  -- what was written is a picture of a run
  pub record DrawsRun (old new : Option (List ℕ)) : Type 0 where
    pub picture : List ℕ
    pub of_run : IsPictureOfRun picture
    pub writes : Appends old new picture

  -- the run has too many events for a picture
  pub record IsTooLong : Type 0 where
    pub plan : Plan
    pub origin : Origin
    pub events : List Event
    pub run : IsRunOfText plan origin events
    pub many : most_drawn_events < length events

-- a fault of a picture tells that the run is too long, or it is one of the run, and tells what that
-- does of the text
abbrev pub ExplainsPicture : ChartFault → Result Plan RunFault → Type 0
ExplainsPicture TooLong read = IsOk read
ExplainsPicture (Run fault) read = SaysOfReading fault read

-- a text with this fault isn't drawn: that ends with the fault, unless memory ran out
abbrev pub EndsPicture : {Y : Type 0} → RunFault → Result Y ChartFault → Type 0
EndsPicture fault result = IsErrAnd result (λ e. (e ≡ Run fault) ⊎ (e ≡ Run Memory))
