-- The statements by which databases commit a prepared branch.
use Rattle.std.specs.Prelude.{ℕ, ℤ, List, ◌++◌, codes}
use Rattle.std.specs.Fmt.{signed_decimal}
use Rattle.hex.specs.Hex.{encode_lower}
use Rattle.xa_base.specs.Xid.{Xid}

-- the identifier of the global transaction, as a manager of a name gives it out: behind the bytes of the name
abbrev pub named_gtrid : (manager : List ℕ) → Xid → List ℕ
named_gtrid manager x = encode_lower manager ++ encode_lower x.gtrid

abbrev pub postgresql_commit : (manager : List ℕ) → Xid → List ℕ
postgresql_commit manager x =
    codes "COMMIT PREPARED '" ++ signed_decimal x.format ++ codes ":" ++ named_gtrid manager x ++ codes ":" ++ encode_lower x.bqual ++ codes "';"

-- of what lies under these digits
abbrev pub xa_commit : (gtrid bqual : List ℕ) (format : ℤ) → List ℕ
xa_commit gtrid bqual format = codes "XA COMMIT X'" ++ gtrid ++ codes "',X'" ++ bqual ++ codes "'," ++ signed_decimal format ++ codes ";"

abbrev pub mariadb_commit : (manager : List ℕ) → Xid → List ℕ
mariadb_commit manager x = xa_commit (named_gtrid manager x) (encode_lower x.bqual) x.format
