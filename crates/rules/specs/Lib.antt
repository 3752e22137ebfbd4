pub mod RuleReady
