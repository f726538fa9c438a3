-- The shape of a generation.
use Rattle.std.specs.Prelude.{◌/◌}
use Rattle.mpm_base.specs.declared.shape.Shape.{Shape}
use Rattle.mpm_config.specs.declared.numbers.Numbers.{Numbers}

-- what the table of connections works by, of corrected numbers
abbrev pub shape_of_numbers : Numbers → Shape
shape_of_numbers n = record {
  threads = n.threads;
  factor = n.factor;
  read_ms = n.timeout_ms;
  keep_ms = n.keep_ms;
  keep = n.keep;
  most = n.most;
  target = n.start_servers;
  children = n.max_workers / n.threads;
  whole_ms = n.whole_ms;
}
