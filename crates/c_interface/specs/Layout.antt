-- What a host compares before its first call: the version of the interface, and the record's size and layout.
use Rattle.std.specs.Prelude.{ℕ, ◌+◌, ◌*◌, replicate}
use Rattle.journal.specs.Journals.{places}
use Rattle.versions.specs.Limits.{max_table}
use Rattle.attempt.specs.Limits.{max_id}
use Rattle.c_record.specs.declared.Record.{Record}

-- The name of `qv_interface_9` has this number too
abbrev pub interface_version : ℕ
interface_version = 9

-- The size of the record in bytes: a row and a version for each place of the table, two connection IDs, ten numbers, the
-- answers of the journal. No padding, which C and Rust check
abbrev pub record_size : ℕ
record_size = 12 * max_table + 2 * max_id + 40 + places

-- The values that `qv_known_record` fills in
unfoldable pub known_record : Record
known_record =
    record {
      rows = replicate max_table 0x1112131415161718;
      table = replicate max_table 0x21222324;
      destination = replicate max_id 0x31;
      source = replicate max_id 0x32;
      table_len = 0x41;
      destination_len = 0x42;
      source_len = 0x43;
      original = 0x44;
      attempted = 0x45;
      acted = 0x46;
      heard = 0x47;
      end_mark = 0x48;
      end_value = 0x49;
      journal = record { answers = replicate places 0x51; count = 0x52 };
    }
