-- Of what a run can be made.
use Rattle.std.specs.Prelude.{◌≤◌, vec_len}
use Rattle.cdc_run.specs.declared.configs.Config.{Config}
use Rattle.cdc_types.specs.declared.bounds.TheConstants.Limits.{CLIENTS, PREFETCH, SUBSCRIBERS}
use Rattle.cdc_types.specs.Windows.{IsWindow}

-- a run can be made of it: it has a client and a subscriber, and nothing is above its limit
pub record Fits (config : Config) : Type 0 where
  pub some_client : 1 ≤ config.clients
  pub clients : config.clients ≤ CLIENTS
  pub some_binding : 1 ≤ vec_len config.bindings
  pub bindings : vec_len config.bindings ≤ SUBSCRIBERS
  pub window : IsWindow config.window
  pub some_prefetch : 1 ≤ config.prefetch
  pub prefetch : config.prefetch ≤ PREFETCH
