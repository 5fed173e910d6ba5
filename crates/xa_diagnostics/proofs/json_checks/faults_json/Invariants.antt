use Rattle.std.proofs.Common.{◌≡◌, map, take, string_bytes}
use Rattle.xa_diagnostics.specs.CheckJson.{fault_json}
use Rattle.xa_diagnostics.proofs.json_checks.faults_json.Given as goal

abbrev pub invariant-loop-diagnostic : goal.invariant-loop-diagnostic
invariant-loop-diagnostic l = map string_bytes l.faults.items ≡ map fault_json (take l.diagnostic-index l.found)
