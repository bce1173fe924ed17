pub mod KeyCases
